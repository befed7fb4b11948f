use Rattle.md5_parts.proofs.RoundLaws.{compress_law}
use Rattle.md5_parts.proofs.rounds.compress.Goals as goal

pub returns : goal.returns
returns c = compress_law _ _ _ c.as_chunks.ensures.front c.told-block _ _ _ _ _
    c.after_round-v.ensures c.after_round-v-2.ensures c.after_round-v-3.ensures c.after_round.ensures c.added.ensures
