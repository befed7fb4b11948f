-- What a block's content is, and what is kept of a file in it.
use Rattle.std.specs.Prelude.{◌≡◌, ℕ, zero, suc, ◌+◌, ◌-◌, ◌≤◌, Bool, true, false, not, ◌&&◌, List, [], drop, ◌≢◌, nat_le}
use Rattle.format.specs.declared.block.Record.{Record}
use Rattle.format.specs.declared.block.Inner.{Inner}
use Rattle.format.specs.declared.block.Inner.TheVariants.{TooDeep, Plain}
use Rattle.format.specs.Bytes.{Bytes, begins}
use Rattle.format.specs.Header.{token}
use Rattle.format.specs.Outcome.{accepted, refused}
use Rattle.format.specs.File.{file, offset_table}
use Rattle.format.specs.Nest.{deepest, Inside, closed, opened, walk, records_from}
use Rattle.file.specs.Layout.{Kept}
use Rattle.visit.specs.declared.content.Found.{Found}

-- What is inside content that begins like a file, in a block at this depth, if files are read for `levels` more levels.
unfoldable pub reads_for : ℕ → ℕ → ℕ → Bytes → Inside
reads_for zero depth n t = closed TooDeep
reads_for (suc levels) depth n t = opened (records_from levels (depth + 1) n t)

-- The same, for as many levels as are left at this depth.
abbrev pub reads : ℕ → ℕ → Bytes → Inside
reads depth = reads_for (deepest - depth) depth

-- What is inside the content `t` of a block at this depth. `n` is where the content begins in the outermost file.
unfoldable pub inside_of : ℕ → ℕ → Bool → Bytes → Inside
inside_of depth n compressed t = elim (not compressed && begins token t) [ true ↦ reads depth n t | false ↦ closed Plain ]

-- The records of an accepted file at this depth, from its block `k` on.
unfoldable pub records_left : ℕ → ℕ → Bytes → ℕ → List Record
records_left depth start s k = elim (file s) [ accepted f ↦ walk (reads depth) depth start s (drop k f.blocks) | refused r ↦ [] ]

-- All records of an accepted file at this depth.
abbrev pub file_records : ℕ → ℕ → Bytes → List Record
file_records depth start s = records_left depth start s 0

-- The content `t` of a block at this depth is an accepted file of `blocks` blocks, which begin at `offsets`.
pub record Opens (depth : ℕ) (compressed : Bool) (t : Bytes) (offsets : List ℕ) (blocks : ℕ) : Type 0 where
  pub higher : depth + 1 ≤ deepest
  pub kept : Kept t offsets blocks
  pub records : (start : ℕ) → (inside_of depth start compressed t).records ≡ file_records (depth + 1) start t

-- The table of offsets after the content `t` of a block at this depth was looked at; `before` is what it held. Only
-- content that is read as a file changes it.
unfoldable pub content_table : ℕ → Bool → Bytes → List ℕ → List ℕ
content_table depth compressed t before =
    elim (not compressed && begins token t && not (nat_le deepest depth)) [ true ↦ offset_table before (file t) | false ↦ before ]

-- What is found about content that is not opened.
abbrev pub closed_found : Inner → Found
closed_found i = record { inner = i; blocks = 0 }

-- `found` is what was found about the content `t` of a block at this depth. This changed the table of offsets from
-- `before` to `after`.
pub record ContentIs (depth : ℕ) (compressed : Bool) (t : Bytes) (before after : List ℕ) (found : Found) : Type 0 where
  pub state : (start : ℕ) → (inside_of depth start compressed t).state ≡ found.inner
  pub none : found.blocks ≡ 0 → (start : ℕ) → (inside_of depth start compressed t).records ≡ []
  pub some : (found.blocks ≢ 0) → Opens depth compressed t after found.blocks
  pub table : after ≡ content_table depth compressed t before
