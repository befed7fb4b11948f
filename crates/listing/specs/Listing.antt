-- How long an outline and a text can be, and what the functions that write a listing promise.
use Rattle.std.specs.Prelude.{ℕ, ◌*◌, ◌/◌, ◌≤◌, ◌≡◌, length}
use Rattle.format.specs.declared.layout.Layout.{Layout}
use Rattle.format.specs.Block.{least_block}
use Rattle.format.specs.Bytes.{Bytes}
use Rattle.format.specs.File.{layout}
use Rattle.format.specs.Outcome.{Outcome, accepted}
use Rattle.format.specs.Promise.{Written, OutlineWritten, BothPut}
use Rattle.format.specs.Listing.{most_input, lent_bytes}
use Rattle.format.specs.Outline.{row_bytes}

-- The maximum number of bytes in the outline of a file that the program takes.
abbrev pub most_outline : ℕ
most_outline = most_input / least_block * row_bytes

-- The file `s` was read with this answer, and its outline was written into a buffer that is long enough. `own` is that
-- buffer afterwards.
pub record Outlined (s : Bytes) (answer : Outcome Layout) (written : Outcome ℕ) (own : Bytes) : Type 0 where
  pub read : answer ≡ layout s
  pub before : Bytes
  pub room : length before ≡ most_outline
  pub outlined : OutlineWritten s before own written

-- An outline `b` and a text `t` were put into two buffers, if both fit. Both fit into buffers as long as the program's.
pub record BothShort (b t rows out rows_after out_after : Bytes) (r : Outcome ℕ) : Type 0 where
  pub put : BothPut b t rows out rows_after out_after r
  pub outline_short : length b ≤ lent_bytes
  pub text_short : length t ≤ lent_bytes

-- The same for a text `t` alone, which is written into one buffer.
pub record Short (t out after : Bytes) (r : Outcome ℕ) : Type 0 where
  pub written : Written (accepted t) out after r
  pub short : length t ≤ lent_bytes
