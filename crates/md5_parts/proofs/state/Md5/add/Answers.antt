use Rattle.std.proofs.Common.{◌≡◌, ◌-◌, ◌++◌, length, length-take, ap, ◌∙◌, arith}
use Rattle.format.specs.Bytes.{Bytes}
use Rattle.md5_parts.specs.State.{held, in_block}
use Rattle.md5_parts.proofs.PartLaws.{add_short, add_long}
use Rattle.md5_parts.proofs.state.Md5.add.Goals as goal
use Rattle.md5_parts.proofs.state.Md5.add.Goals.{then-bytes-room, else-bytes-room}

pub returns : goal.returns
returns c =
    let size : length c.held.result.now ≡ length (held c.args.self.now) = ap length c.held.ensures in
    elim c.if-bytes-room.branch [
      | then-bytes-room w ↦
          let few = w.if-bytes-room.true in
          rw (w.self-is) (add_short c.args.self.now c.args.bytes.now (omega (arith, size, few)) _
          (w.joined-self.ensures ∙ ap (λ (h : Bytes). in_block (h ++ c.args.bytes.now)) w.held-then-bytes-room.ensures))
      | else-bytes-room w ↦
          let many = w.if-bytes-room.false in
          rw (w.self-is) (add_long c.args.self.now c.args.bytes.now (simp length-take (omega arith)) (64 - length c.held.result.now) (omega (arith, size)) many
          _ _ _ w.held-else-bytes-room.ensures w.split_at.ensures.front w.split_at.ensures.back _ w.joined-first.ensures
          _ w.blocks-words.ensures _ w.as_chunks.ensures.front _ w.blocks-self.ensures _ w.as_chunks.ensures.back _ w.joined-self-else-bytes-room.ensures)
    ]
