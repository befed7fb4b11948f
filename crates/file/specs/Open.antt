-- What is kept of an accepted file.
use Rattle.std.specs.Prelude.{ℕ, List}
use Rattle.format.specs.Bytes.{Bytes}
use Rattle.format.specs.Outcome.{Outcome, accepted, ◌>>=◌}
use Rattle.format.specs.File.{file, offsets}

-- Where the blocks of the file `s` begin, or its refusal.
unfoldable pub file_offsets : Bytes → Outcome (List ℕ)
file_offsets s = do
  f ← file s
  accepted (offsets f.blocks)
