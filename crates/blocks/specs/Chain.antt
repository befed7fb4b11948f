-- What is found where a block may begin, and what a walk along the chain finds.
use Rattle.std.specs.Prelude.{ℕ, ◌+◌, ◌-◌, ◌≤◌, ◌<◌, ◌≡◌, Bool, true, false, List, [], length, drop, replicate, None, Some}
use Rattle.format.specs.declared.block.Block.{Block}
use Rattle.format.specs.Bytes.{Bytes, all_zero}
use Rattle.format.specs.Outcome.{Refusal, Outcome, accepted, refused, ◌>>=◌}
use Rattle.format.specs.Chain.{Chain, most_blocks, ended, linked, next_block, chain}
use Rattle.format.specs.File.{table_of}
use Rattle.blocks.specs.declared.step.Link.{Link}
use Rattle.blocks.specs.declared.step.Link.TheVariants as Link·is
use Rattle.blocks.specs.declared.step.ChainFound.{ChainFound}

-- The chain of the file `s` from offset `n` on, where block `i` may begin.
abbrev pub onward : Bytes → ℕ → ℕ → Outcome Chain
onward s i n = chain (most_blocks - i) i n (drop n s)

-- No block follows at offset `n`; the tail begins there. `zeros` states whether the tail is only zeros.
pub record TailBegins (s : Bytes) (i n : ℕ) (zeros : Bool) : Type 0 where
  pub is : onward s i n ≡ accepted (ended (drop n s))
  pub tail : all_zero (drop n s) ≡ zeros

-- The next block from offset `n` on has its mark at `m`.
pub record Follows (s : Bytes) (n m : ℕ) : Type 0 where
  pub gap : ℕ
  pub next : next_block (drop n s) ≡ Some gap
  pub at : m ≡ n + gap
  pub inside : m ≤ length s

-- `m` is where the next block from offset `n` on has its mark, or the end of the file if no block follows.
pub record NextMark (s : Bytes) (n m : ℕ) : Type 0 where
  pub some_block : m < length s → Follows s n m
  pub no_block : length s ≤ m → next_block (drop n s) ≡ None

-- Block `i` follows from offset `n` on, its mark is at `m`, and `o` is the chain after it.
pub record BlockBegins (s : Bytes) (i n m : ℕ) (o : Outcome Chain) : Type 0 where
  pub first : Block
  pub is : onward s i n ≡ ◌>>=◌ o (λ c. accepted (linked first c))
  pub at : first.at.0 ≡ m
  pub few : i < most_blocks

-- What an answer states about the chain from offset `n` on, where block `i` may begin. `m` is where the next block has
-- its mark, or the end of the file if no block follows.
abbrev pub LinkIs : Bytes → ℕ → ℕ → ℕ → Outcome Link → Type 0
LinkIs s i n m (accepted (Link·is.Block e)) = BlockBegins s i n m (onward s (i + 1) (m + e)) × (m + e ≤ length s)
LinkIs s i n m (accepted Link·is.Streamed) = BlockBegins s i n m (accepted (ended []))
LinkIs s i n m (accepted Link·is.Zeros) = TailBegins s i n true
LinkIs s i n m (accepted Link·is.Index) = TailBegins s i n false
LinkIs s i n m (refused r) = onward s i n ≡ refused r

-- The chain `c` of `k` blocks was walked. The walk changed the table from `before` to `out`, and the front of `out`
-- holds where the blocks begin.
pub record Chained (o : Outcome Chain) (before out : List ℕ) (k : ℕ) (c : Chain) : Type 0 where
  pub is : o ≡ accepted c
  pub count : length c.blocks ≡ k
  pub few : k ≤ most_blocks
  pub kept : out ≡ table_of before c.blocks

-- A chain of `k` blocks was walked, and no index follows it.
pub record WalkedAlone (o : Outcome Chain) (before out : List ℕ) (k : ℕ) : Type 0 where
  pub c : Chain
  pub chained : Chained o before out k c
  pub zeros : all_zero c.tail ≡ true

-- A chain of `k` blocks was walked, and the bytes after it, at offset `n`, begin like an index.
pub record WalkedTo (s : Bytes) (o : Outcome Chain) (before out : List ℕ) (k n : ℕ) : Type 0 where
  pub c : Chain
  pub chained : Chained o before out k c
  pub zeros : all_zero c.tail ≡ false
  pub tail : c.tail ≡ drop n s
  pub inside : n ≤ length s

-- The chain was walked, and what follows it was found.
abbrev pub WalkedAs : Bytes → Outcome Chain → List ℕ → List ℕ → ChainFound → Type 0
WalkedAs s o before out w = elim w.tail [ None ↦ WalkedAlone o before out w.blocks | Some n ↦ WalkedTo s o before out w.blocks n ]

-- What the answer of a walk through the file `s` states. `o` is the outcome of the chain, and the walk changed the
-- table from `before` to `out`. If the chain is refused, what was kept stays in the table, and nothing is stated about
-- it.
abbrev pub WalkedInside : Bytes → Outcome Chain → List ℕ → List ℕ → Outcome ChainFound → Type 0
WalkedInside s o before out (refused r) = o ≡ refused r
WalkedInside s o before out (accepted w) = WalkedAs s o before out w

-- The chain is refused with `r`, and no offset is kept: the table is only zeros.
pub record WalkRefused (o : Outcome Chain) (out : List ℕ) (r : Refusal) : Type 0 where
  pub is : o ≡ refused r
  pub none_kept : out ≡ replicate most_blocks 0

-- The same as `WalkedInside`, except that a refused chain leaves only zeros in the table.
abbrev pub Walked : Bytes → Outcome Chain → List ℕ → List ℕ → Outcome ChainFound → Type 0
Walked s o before out (refused r) = WalkRefused o out r
Walked s o before out (accepted w) = WalkedAs s o before out w
