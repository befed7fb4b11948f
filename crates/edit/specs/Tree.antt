-- What is known about a file whose tree is edited.
use Rattle.std.specs.Prelude.{◌≡◌, Option}
use Rattle.format.specs.declared.layout.Tree.{Tree}
use Rattle.format.specs.Bytes.{Bytes}
use Rattle.format.specs.Outcome.{accepted}
use Rattle.format.specs.File.{File, file}

-- `s` is an accepted file, and `x` is its tree, or states that it has none.
pub record HasTree (s : Bytes) (x : Option Tree) : Type 0 where
  pub found : File
  pub read : file s ≡ accepted found
  pub is : found.tree ≡ x
