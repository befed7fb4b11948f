-- The walk through the blocks of a file and the files inside them.
use Rattle.std.specs.Prelude.{ℕ, ◌+◌, List, [], ◌∷◌, take, drop}
use Rattle.format.specs.declared.block.Block.{Block}
use Rattle.format.specs.declared.block.Inner.{Inner}
use Rattle.format.specs.declared.block.Record.{Record}
use Rattle.format.specs.declared.offset.OutermostOffset.{OutermostOffset}
use Rattle.format.specs.Bytes.{Bytes}
use Rattle.format.specs.Outcome.{accepted, refused}
use Rattle.format.specs.Block.{is_compressed, content_start, sound_block}
use Rattle.format.specs.Nest.{Inside, records}
use Rattle.visit.specs.declared.sink.Reached.{Reached}
use Rattle.visit.specs.Content.{inside_of}

-- The content of the block `b`, with which `t` begins.
abbrev pub content_in : Block → Bytes → Bytes
content_in b t = take b.used (drop (content_start t) t)

-- What is inside the block `b`, with which `t` begins. The block is at `here` of the outermost file.
abbrev pub inside_at : ℕ → OutermostOffset → Block → Bytes → Inside
inside_at depth here b t = inside_of depth (here.0 + content_start t) (is_compressed b.compression) (content_in b t)

-- The record of the block `b`. The block is at `here` of the outermost file, and its inner state is `inner`.
abbrev pub record_of : ℕ → OutermostOffset → Block → Inner → Record
record_of depth here b inner = record { depth = depth; at = here; block = b; inner = inner }

-- The record of block `i`, with which `t` begins, and the records of the blocks inside it. The block is at offset `n`
-- of its file and at `here` of the outermost file.
abbrev pub records_at : ℕ → OutermostOffset → ℕ → ℕ → Bytes → List Record
records_at depth here i n t = let b = sound_block i n t in let inside = inside_at depth here b t in record_of depth here b inside.state ∷ inside.records

-- The same for a block that the walk has reached.
abbrev pub reached_records : Reached → List Record
reached_records b = records_at b.depth b.here b.ordinal b.at b.bytes.now

-- All records of an accepted outermost file.
unfoldable pub all_records : Bytes → List Record
all_records s = elim (records s) [ accepted rs ↦ rs | refused r ↦ [] ]
