use Rattle.std.proofs.Common.{◌^◌, ◌%◌, ap, ◌∙◌, arith}
use Rattle.format.specs.Bytes.{big_endian}
use Rattle.running.proofs.ReturnLaws.{stored_none, stored_read, eight_is, number_is}
use Rattle.running.proofs.decode.Goals as goal

pub returns-then-s-lt-STATE_BYTES : goal.returns-then-s-lt-STATE_BYTES
returns-then-s-lt-STATE_BYTES c = stored_none _ c.if-s-lt-STATE_BYTES.true _ c.new.ensures

pub returns : goal.returns
returns c =
    let s = c.args.s.now in
    let room = c.if-s-lt-STATE_BYTES.false in
    let cut = c.as_chunks.ensures.front in
    stored_read s room _ _ _ _ _ _
    (c.word.ensures ∙ ap (λ b. big_endian b % 2 ^ 32) (eight_is s room _ cut 0 (omega arith)))
    (c.word-2.ensures ∙ ap (λ b. big_endian b % 2 ^ 32) (eight_is s room _ cut 1 (omega arith)))
    (c.word-3.ensures ∙ ap (λ b. big_endian b % 2 ^ 32) (eight_is s room _ cut 2 (omega arith)))
    (c.word-4.ensures ∙ ap (λ b. big_endian b % 2 ^ 32) (eight_is s room _ cut 3 (omega arith)))
    (number_is s room _ cut 4 (omega arith) _ c.from_be_bytes.ensures)
    c.copy_from_slice.ensures.after
