-- What the steps of reading a file know and answer.
use Rattle.std.specs.Prelude.{ℕ, ◌≡◌, List, length, take, drop, Option, None, Some, ◌≤◌}
use Rattle.format.specs.declared.layout.Header.{Header}
use Rattle.format.specs.declared.layout.Tree.{Tree}
use Rattle.format.specs.declared.layout.Verdict.{Verdict}
use Rattle.format.specs.declared.layout.Layout.{Layout}
use Rattle.format.specs.declared.layout.Verdict.TheVariants.{Absent}
use Rattle.blocks.specs.declared.step.ChainFound.{ChainFound}
use Rattle.format.specs.Bytes.{Bytes}
use Rattle.format.specs.Outcome.{Outcome, accepted, ◌>>=◌}
use Rattle.format.specs.Line.{lines}
use Rattle.format.specs.Header.{header}
use Rattle.format.specs.Comments.{comments}
use Rattle.format.specs.Tree.{tree}
use Rattle.format.specs.Chain.{Chain, most_blocks}
use Rattle.format.specs.Index.{verdict, judged, indexed}
use Rattle.format.specs.File.{File, most_bytes, file, offsets, table_of, layout_of}

-- The file with the header `h`, comments that end at `n`, the tree `t` and the chain `c`.
abbrev pub file_with : Header → ℕ → Option Tree → Chain → File
file_with h n t c = record { header = h; comments_end = n; tree = t; blocks = c.blocks; verdict = verdict (offsets c.blocks) c.tail }

-- What comes before the blocks of the file `s` was read: the header `h`, comments that end at `n`, and the tree `t`.
pub record FrontRead (s : Bytes) (h : Header) (n : ℕ) (t : Option Tree) : Type 0 where
  pub few : length s ≤ most_bytes
  pub header_read : header s ≡ accepted h
  pub comments_read : comments h.end.0 (lines (drop h.end.0 s)) ≡ accepted n
  pub tree_read : tree n s ≡ accepted t

-- The verdict on what follows the chain in the file `s`, if the front of the table `out` holds where the blocks begin.
abbrev pub chain_verdict : Bytes → List ℕ → ChainFound → Verdict
chain_verdict s out c = elim c.tail [ None ↦ Absent | Some n ↦ judged (take c.blocks out) (indexed (lines (drop n s))) ]

-- Where bytes that begin like an index follow the chain, they begin inside the file or at its end.
abbrev pub TailInside : Bytes → Option ℕ → Type 0
TailInside s None = Unit {0}
TailInside s (Some n) = n ≤ length s

-- What a walk along the chain of the file `s` found is inside the file, and the table `out` has an entry for each block.
pub record ChainInside (s : Bytes) (out : List ℕ) (c : ChainFound) : Type 0 where
  pub few : c.blocks ≤ length out
  pub limit : c.blocks ≤ most_blocks
  pub tail : TailInside s c.tail

-- The layout with these parts; its comments end at `n`.
abbrev pub layout_with : Header → ℕ → Option Tree → ℕ → Verdict → Layout
layout_with h n t blocks v = record { header = h; comments_end = record { 0 = n }; tree = t; blocks = blocks; verdict = v }

-- `r` is the right answer for the outcome `o`. If the file is accepted, the table was changed from `before` to `out`,
-- and the front of `out` holds where its blocks begin.
pub record Judged (o : Outcome File) (before out : List ℕ) (r : Outcome Layout) : Type 0 where
  pub is : r ≡ ◌>>=◌ o (λ f. accepted (layout_of f))
  pub kept : (f : File) → o ≡ accepted f → out ≡ table_of before f.blocks

-- `s` is an accepted file of `blocks` blocks, and the first `blocks` entries of `out` are where they begin.
pub record Kept (s : Bytes) (out : List ℕ) (blocks : ℕ) : Type 0 where
  pub f : File
  pub is : file s ≡ accepted f
  pub count : length f.blocks ≡ blocks
  pub begin : take blocks out ≡ offsets f.blocks
