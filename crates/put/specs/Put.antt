-- What is put into a buffer at an offset, and where it ends.
use Rattle.std.specs.Prelude.{◌≡◌, ℕ, ◌+◌, ◌*◌, ◌%◌, ◌^◌, ◌<◌, ◌≤◌, List, [], ◌∷◌, ◌++◌, length}
use Rattle.format.specs.Bytes.{Bytes}
use Rattle.format.specs.Lent.{placed}
use Rattle.format.specs.Numeral.{decimal}

-- Where bytes that are put at offset `at` end, counted in 64 bits.
abbrev pub put_end : ℕ → Bytes → ℕ
put_end at bytes = (at + length bytes) % 2 ^ 64

-- The bytes `bytes`, at most `most`, were put at offset `at`, and end at `r`. If they do not fit, nothing changed.
pub record PutWhole (before after : Bytes) (at : ℕ) (bytes : Bytes) (most r : ℕ) : Type 0 where
  pub buffer : after ≡ placed before at bytes
  pub end : r ≡ put_end at bytes
  pub few : length bytes ≤ most

-- The same for bytes that were put in parts. If they do not all fit, some of them may be there. The condition with 2 ^
-- 64 excludes no buffer, since none has 2 ^ 64 bytes.
pub record PutAt (before after : Bytes) (at : ℕ) (bytes : Bytes) (most r : ℕ) : Type 0 where
  pub buffer : at + length bytes ≤ length before → at + length bytes < 2 ^ 64 → after ≡ placed before at bytes
  pub size : length after ≡ length before
  pub end : r ≡ put_end at bytes
  pub few : length bytes ≤ most

-- The highest number of digits that a number of 64 bits can have.
abbrev pub most_digits : ℕ
most_digits = 20

-- Numbers in decimal, with the text `between` between each two.
unfoldable pub decimals : Bytes → List ℕ → Bytes
decimals between [] = []
decimals between (n ∷ []) = decimal n
decimals between (n ∷ m ∷ ns) = decimal n ++ between ++ decimals between (m ∷ ns)

-- A bound on the bytes that `count` numbers take, with the text `between` between each two.
abbrev pub most_decimals : Bytes → ℕ → ℕ
most_decimals between count = count * (most_digits + length between)

-- A buffer after the numbers and the texts between them were put there one by one. Each of them is there if it fits.
unfoldable pub decimals_put : Bytes → ℕ → Bytes → List ℕ → Bytes
decimals_put out at between [] = out
decimals_put out at between (n ∷ []) = placed out at (decimal n)
decimals_put out at between (n ∷ m ∷ ns) =
    decimals_put (placed (placed out at (decimal n)) (put_end at (decimal n)) between) (put_end (put_end at (decimal n)) between) between (m ∷ ns)

-- Numbers were put at offset `at`, with a text between each two, and end at `r`.
pub record PutDecimals (before after : Bytes) (at : ℕ) (between : Bytes) (ns : List ℕ) (r : ℕ) : Type 0 where
  pub buffer : after ≡ decimals_put before at between ns
  pub end : r ≡ put_end at (decimals between ns)
  pub few : length (decimals between ns) ≤ most_decimals between (length ns)
