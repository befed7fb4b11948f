-- What is done with the blocks of a walk, which come one after another.
use Rattle.std.specs.Prelude.{Option, None, Some, ◌≡◌, ℕ, ◌*◌, true, false, List, [], ◌∷◌, length, ◌==◌}
use mathlib.Core.List.{flat_map}
use Rattle.format.specs.declared.block.Inner.{Inner}
use Rattle.format.specs.declared.block.Record.{Record}
use Rattle.format.specs.declared.offset.OutermostOffset.{OutermostOffset}
use Rattle.format.specs.Bytes.{Bytes, wrapped}
use Rattle.format.specs.Fields.{encode_record, record_bytes}
use Rattle.format.specs.Lent.{placed}
use Rattle.format.specs.Outline.{row_of, encode_row, row_bytes}
use Rattle.blocks.specs.Again.{block_again}
use Rattle.visit.specs.declared.sink.Form.{Form}
use Rattle.visit.specs.declared.sink.Form.TheVariants.{Rows, Table, One}
use Rattle.visit.specs.declared.sink.Place.{Place}
use Rattle.visit.specs.declared.sink.Place.TheVariants.{Row, Numbers}
use Rattle.visit.specs.declared.sink.Reached.{Reached}

-- The record of block `i`, read again from `t`, which begins with it. The block is at offset `n` of its file and at
-- `here` of the outermost file, and its inner state is `inner`.
abbrev pub block_record : ℕ → OutermostOffset → ℕ → ℕ → Bytes → Inner → Record
block_record depth here i n t inner = record { depth = depth; at = here; block = block_again i n t; inner = inner }

-- The record of a block that the walk has reached, with this inner state.
abbrev pub reached_record : Reached → Inner → Record
reached_record b inner = block_record b.depth b.here b.ordinal b.at b.bytes.now inner

-- What is put for every record. In the form `One` these are no bytes: `delivery` states what is put for the wanted
-- record.
abbrev pub encoded : Form → Record → Bytes
encoded Rows r = encode_row (row_of r)
encoded Table r = encode_record r
encoded (One w) r = []

-- How many bytes are put for every record.
abbrev pub width : Form → ℕ
width Rows = row_bytes
width Table = record_bytes
width (One w) = 0

-- What is put for several records, one after another.
unfoldable pub all_encoded : Form → List Record → Bytes
all_encoded form rs = flat_map (encoded form) rs

-- What is put when record number `n` comes.
abbrev pub delivery : Form → ℕ → Record → Bytes
delivery Rows n r = encoded Rows r
delivery Table n r = encoded Table r
delivery (One w) n r = elim (w == n) [ true ↦ encode_record r | false ↦ [] ]

-- The number of the next record after these, if the first of them has number `n`.
unfoldable pub number_after : ℕ → List Record → ℕ
number_after n [] = n
number_after n (r ∷ rs) = number_after (wrapped n 1) rs

-- The buffer `out` after what is wanted of each record was put in its place. The first record has number `n`.
unfoldable pub put_all : Form → ℕ → Bytes → List Record → Bytes
put_all form n out [] = out
put_all form n out (r ∷ rs) = put_all form (wrapped n 1) (placed out (n * width form) (delivery form n r)) rs

-- The records `rs` have come, the first as number `n`, and what is wanted of each was put. This changed the buffer from
-- `before` to `after`, and the next record has number `x`.
pub record Delivered (form : Form) (n : ℕ) (before : Bytes) (rs : List Record) (after : Bytes) (x : ℕ) : Type 0 where
  pub next : x ≡ number_after n rs
  pub buffer : after ≡ put_all form n before rs

-- What must be put of record number `n` into a buffer of `room` bytes, and where.
abbrev pub PlaceIs : Form → ℕ → ℕ → Option Place → Type 0
PlaceIs form n room None = (out : Bytes) (r : Record) → length out ≡ room → out ≡ placed out (n * width form) (delivery form n r)
PlaceIs form n room (Some (Row p)) = (out : Bytes) (r : Record) → placed out p (encode_row (row_of r)) ≡ placed out (n * width form) (delivery form n r)
PlaceIs form n room (Some (Numbers p)) = (out : Bytes) (r : Record) → placed out p (encode_record r) ≡ placed out (n * width form) (delivery form n r)
