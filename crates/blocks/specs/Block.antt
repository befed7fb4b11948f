-- The numbers in a block's header, and what is known of the header when its sizes are read.
use Rattle.std.specs.Prelude.{Result, Ok, Err, ℕ, ◌+◌, ◌-◌, ◌≤◌, ◌<◌, ◌^◌, ◌≡◌, true, false, length}
use Rattle.format.specs.declared.refusal.Reason.{Reason}
use Rattle.format.specs.Bytes.{Bytes, number}
use Rattle.format.specs.Outcome.{refused, refusal}
use Rattle.format.specs.Block.{header_size, flags, allocated_size, least_header, is_streamed, content_start, bytes_left, block, Sound}
use Rattle.blocks.specs.declared.step.Link.{Link}
use Rattle.blocks.specs.declared.step.Link.TheVariants as Link·is

-- The bytes from offset `from` to offset `to` are a field of `t`: they are inside `t`, and there are at most eight of
-- them.
pub record IsField (t : Bytes) (from to : ℕ) : Type 0 where
  pub order : from ≤ to
  pub short : to - from ≤ 8
  pub inside : to ≤ length t

-- `r` is the number in the bytes of `t` from offset `from` to offset `to`, and it fits into them.
pub record FieldRead (t : Bytes) (from to r : ℕ) : Type 0 where
  pub is : r ≡ number from (to - from) t
  pub fits : r < 256 ^ (to - from)

-- `t` begins with the whole header of a block that is not streamed, and `left` bytes follow the header.
pub record HeaderRead (t : Bytes) (left : ℕ) : Type 0 where
  pub least : least_header ≤ header_size t
  pub whole : content_start t ≤ length t
  pub plain : is_streamed (flags t) ≡ false
  pub after : left ≡ bytes_left t

-- How the chain goes on after a block with which nothing is wrong.
unfoldable pub sound_link : Bytes → Link
sound_link t = elim (is_streamed (flags t)) [ true ↦ Link·is.Streamed | false ↦ Link·is.Block (content_start t + allocated_size t) ]

-- What the check of the block that `t` begins with states: nothing is wrong with it, or it is refused for this reason.
abbrev pub Checked : Bytes → Result (Unit {0}) Reason → Type 0
Checked t (Ok u) = Sound t
Checked t (Err x) = (i n : ℕ) → block i n t ≡ refused (refusal x n)
