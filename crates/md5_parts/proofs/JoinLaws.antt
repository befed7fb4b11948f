-- Two parts of a block put into a block of zeros.
use Rattle.std.proofs.Common.{◌≡◌, ℕ, ◌+◌, ◌-◌, ◌≤◌, ◌++◌, length, drop, replicate, ap, ◌∙◌, append_assoc, arith, length-append}
use Rattle.std.proofs.lemmas.List.{drop-replicate}
use lib.Seq.{take-append_seam, drop-append_seam}
use borrow.Rule.Slice.PartMut.{put_mid}
use Rattle.format.specs.Bytes.{Bytes}
use Rattle.md5_parts.specs.State.{in_block}

-- Zeros.
abbrev pub zeros : ℕ → Bytes
zeros n = replicate n 0

-- The first is copied to the front of the zeros, and then the second to the front of the rest.
pub joined_law : (a b x y : Bytes) → length a + length b ≤ 64 → x ≡ a → y ≡ b
    → put_mid (length a) (length a + length b - length a) (x ++ drop (length a) (zeros 64)) y ≡ in_block (a ++ b)
joined_law a b x y fits ex ey =
    let k : length a + length b - length a ≡ length b = omega arith in
    let rest : drop (length b) (zeros (64 - length a)) ≡ zeros (64 - (length a + length b)) =
    let e : 64 - length a - length b ≡ 64 - (length a + length b) = omega arith in drop-replicate (length b) (64 - length a) 0 ∙ ap zeros e in
    rw (ex, ey, k, drop-replicate, take-append_seam, drop-append_seam, rest, length-append, append_assoc)
