-- What a writer answers, and what it leaves in the buffer that it was lent.
use Rattle.std.specs.Prelude.{ℕ, ◌+◌, Bool, true, false, ◌&&◌, ◌++◌, length, take, drop, nat_le}
use Rattle.format.specs.Bytes.{Bytes}
use Rattle.format.specs.Outcome.{Outcome, accepted, refused, need, ◌>>=◌, ◌>>◌}
use Rattle.format.specs.declared.refusal.Reason.TheVariants.{BufferTooShort}

-- How many bytes are written, if the buffer `out` is long enough.
unfoldable pub writes : Outcome Bytes → Bytes → Outcome ℕ
writes result out = do
  bytes ← result
  need (nat_le (length bytes) (length out)) BufferTooShort 0
  accepted (length bytes)

-- The buffer `out` with these bytes at offset `n` and the rest unchanged. If they do not fit, nothing changes.
unfoldable pub placed : Bytes → ℕ → Bytes → Bytes
placed out n bytes =
    elim (nat_le (n + length bytes) (length out)) [ true ↦ take n out ++ bytes ++ drop (n + length bytes) out | false ↦ out ]

-- What the buffer holds afterwards: the result at its start, or what it held before.
unfoldable pub leaves : Outcome Bytes → Bytes → Bytes
leaves (accepted bytes) out = placed out 0 bytes
leaves (refused r) out = out

-- Whether the outline `b` fits the buffer `rows`, and the text `t` fits the buffer `out`.
abbrev pub both_fit : Bytes → Bytes → Bytes → Bytes → Bool
both_fit b t rows out = nat_le (length b) (length rows) && nat_le (length t) (length out)

-- The buffer with these bytes at its start if `fit` is true; otherwise the buffer as it was.
abbrev pub put_if : Bool → Bytes → Bytes → Bytes
put_if fit buffer bytes = elim fit [ true ↦ placed buffer 0 bytes | false ↦ buffer ]
