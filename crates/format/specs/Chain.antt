-- The chain of blocks, with unallocated space between them, and the tail after the last block.
use Rattle.std.specs.Prelude.{ℕ, zero, suc, ◌+◌, Bool, true, false, ◌||◌, List, [], ◌∷◌, length, drop, nat_lt, Option, None, Some}
use Rattle.format.specs.declared.block.Block.{Block}
use Rattle.format.specs.declared.refusal.Reason.TheVariants.{TooManyBlocks, StrayTail}
use Rattle.format.specs.Bytes.{Bytes, begins, all_zero}
use Rattle.format.specs.Outcome.{Outcome, accepted, refused, refusal, need, ◌>>=◌, ◌>>◌}
use Rattle.format.specs.Comments.{index_line}
use Rattle.format.specs.Tree.{free_space}
use Rattle.format.specs.Block.{block, is_streamed}

-- The highest number of blocks in a file.
abbrev pub most_blocks : ℕ
most_blocks = 64

-- The blocks of a file and the bytes after the last of them. After a streamed block there are no bytes.
pub record Chain : Type 0 where
  pub blocks : List Block
  pub tail : Bytes

-- How many bytes there are from a block's first byte to the end of its allocated space.
abbrev pub extent : Block → ℕ
extent b = 6 + b.header_size + b.allocated

-- Where the last block's allocated space ends, or `n` if there is no block.
unfoldable pub blocks_end : ℕ → List Block → ℕ
blocks_end n [] = n
blocks_end n (b ∷ bs) = blocks_end (b.at.0 + extent b) bs

-- Whether `t` may be a tail: nothing, zero bytes only, or an index that is then judged.
abbrev pub is_tail : Bytes → Bool
is_tail t = all_zero t || begins index_line t

-- The chain with no further block and with the tail `t`.
abbrev pub ended : Bytes → Chain
ended t = record { blocks = []; tail = t }

-- The chain `c` with the block `b` before its blocks.
abbrev pub linked : Block → Chain → Chain
linked b c = record { blocks = b ∷ c.blocks; tail = c.tail }

-- How many bytes of `t` come before its first mark, if it has one.
unfoldable pub mark_ahead : Bytes → Option ℕ
mark_ahead t = elim (nat_lt (free_space t) (length t)) [ true ↦ Some (free_space t) | false ↦ None ]

-- How many bytes of `t` come before the next block, if there is one. If `t` begins with `index_line`, no block follows.
unfoldable pub next_block : Bytes → Option ℕ
next_block t = elim (begins index_line t) [ true ↦ None | false ↦ mark_ahead t ]

-- The end of the chain at offset `n`, where no block follows; `t` is the rest of the file from there.
unfoldable pub tail : ℕ → Bytes → Outcome Chain
tail n t = do
  need (is_tail t) StrayTail n
  accepted (ended t)

-- Block `i` at offset `n`, and the blocks that `others` reads from its end; `t` is the rest of the file from `n`. After
-- a streamed block there are no others.
unfoldable pub linked_at : ℕ → ℕ → Bytes → (ℕ → Bytes → Outcome Chain) → Outcome Chain
linked_at i n t others = do
  b ← block i n t
  c ← elim (is_streamed b.flags) [ true ↦ accepted (ended []) | false ↦ others (n + extent b) (drop (extent b) t) ]
  accepted (linked b c)

-- The blocks from offset `n`, each at the next mark; `t` is the rest of the file from `n`. The first argument is how
-- many blocks are allowed, and `i` is the ordinal of the first of them.
unfoldable pub chain : ℕ → ℕ → ℕ → Bytes → Outcome Chain
chain zero i n t = elim (next_block t) [ None ↦ tail n t | Some g ↦ refused (refusal TooManyBlocks (n + g)) ]
chain (suc k) i n t = elim (next_block t) [ None ↦ tail n t | Some g ↦ linked_at i (n + g) (drop g t) (chain k (i + 1)) ]
