-- What is known of an open file whose index is written.
use Rattle.std.specs.Prelude.{◌≡◌}
use Rattle.format.specs.declared.layout.Layout.{Layout}
use Rattle.format.specs.declared.line.LineEnd.{LineEnd}
use Rattle.format.specs.Bytes.{Bytes}
use Rattle.format.specs.Outcome.{accepted}
use Rattle.format.specs.File.{layout}

-- The file `s` is accepted, and its header ends in `e`.
pub record EndsAs (s : Bytes) (e : LineEnd) : Type 0 where
  pub l : Layout
  pub read : layout s ≡ accepted l
  pub is : e ≡ l.header.line_end
