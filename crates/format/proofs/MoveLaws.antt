-- A block, a chain of blocks and the records of a file read the same `d` bytes further on. No law uses these yet. They
-- are for reading a file in parts, and for files at another offset of the outermost file.
use Rattle.std.proofs.Common.{◌≡◌, ℕ, zero, suc, ◌+◌, Bool, true, false, List, [], ◌∷◌, map, drop, refl, ap, ◌∙◌, add_assoc}
use mathlib.Core.List.{map-append}
use Rattle.format.specs.declared.block.Block.{Block}
use Rattle.format.specs.declared.refusal.Reason.{Reason}
use Rattle.format.specs.declared.block.Record.{Record}
use Rattle.format.specs.declared.block.Inner.TheVariants.{Plain, TooDeep}
use Rattle.format.specs.Bytes.{Bytes}
use Rattle.format.specs.Outcome.{Outcome, accepted, refused, refusal, need, ◌>>◌, ◌>>=◌}
use Rattle.format.specs.Block.{flags, is_streamed, block_with, block}
use Rattle.format.specs.Chain.{Chain, extent, ended, linked, tail, linked_at, chain}
use Rattle.format.specs.File.{File, file}
use Rattle.format.specs.Nest.{content_at, content_of, is_file, Inside, closed, opened, inside, walked, walk, walk_file, records_from}
use Rattle.format.proofs.NextLaws.{Next}
use Rattle.format.proofs.InductionLaws.{chain_induction}
use Rattle.format.proofs.ChainLaws.{chain_none, chain_many, chain_next}

-- An outcome `d` bytes further on. `f` moves what is accepted.
abbrev pub further : {A : Type 0} → (A → A) → ℕ → Outcome A → Outcome A
further f d (accepted a) = accepted (f a)
further f d (refused r) = refused (refusal r.reason (d + r.place.0))

-- A block `d` bytes further on.
abbrev pub moved_block : ℕ → Block → Block
moved_block d b =
    record {
      ordinal = b.ordinal;
      at = record { 0 = d + b.at.0 };
      header_size = b.header_size;
      flags = b.flags;
      compression = b.compression;
      allocated = b.allocated;
      used = b.used;
      data_size = b.data_size;
      checksum_high = b.checksum_high;
      checksum_low = b.checksum_low;
    }

abbrev pub moved_chain : ℕ → Chain → Chain
moved_chain d c = record { blocks = map (moved_block d) c.blocks; tail = c.tail }

module _ {A : Type 0} (f : A → A) (d n : ℕ) where
  need_further : (x : Bool) (k : Reason) (o p : Outcome A) → o ≡ further f d p → ◌>>◌ (need x k (d + n)) o ≡ further f d (◌>>◌ (need x k n) p)
  need_further true k o p h = h
  need_further false k o p h = refl

  choice_further : (x : Bool) (o p u v : Outcome A) → o ≡ further f d u → p ≡ further f d v
      → elim x [ true ↦ o | false ↦ p ] ≡ further f d (elim x [ true ↦ u | false ↦ v ])
  choice_further true o p u v h k = h
  choice_further false o p u v h k = k

-- A block reads the same `d` bytes further on.
pub block_further : (d i n : ℕ) (t : Bytes) → block i (d + n) t ≡ further (moved_block d) d (block i n t)
unfolding block block_with
block_further d i n t = search (need_further, choice_further (moved_block d) d n (is_streamed (flags t))) depth 12

tail_further : (d n : ℕ) (t : Bytes) → tail (d + n) t ≡ further (moved_chain d) d (tail n t)
unfolding tail
tail_further d n t = search need_further

-- If a block follows after `g` bytes, the chain `d` bytes further on begins with it.
next_further : (d k i n g : ℕ) (t : Bytes) → Next t g → (o : Outcome Block) → block i (n + g) (drop g t) ≡ o
    → chain (suc k) i (d + n) t ≡ ◌>>=◌ (further (moved_block d) d o) (λ b. ◌>>=◌ (elim (is_streamed b.flags) [
      | true ↦ accepted (ended [])
      | false ↦ chain k (i + 1) (d + (n + g) + extent b) (drop (extent b) (drop g t))
    ]) (λ c. accepted (linked b c)))
unfolding linked_at
next_further d k i n g t next o read =
    chain_next k i (d + n) g t next.is ∙ ap (λ (m : ℕ). linked_at i m (drop g t) (chain k (i + 1))) (add_assoc d n g)
    ∙ rw (block_further d i (n + g) (drop g t), linked_at, read)

-- A chain reads the same `d` bytes further on.
pub chain_further : (d k i n : ℕ) (t : Bytes) → chain k i (d + n) t ≡ further (moved_chain d) d (chain k i n t)
chain_further d = chain_induction {P = λ k i n t o. chain k i (d + n) t ≡ further (moved_chain d) d o} (record {
  no_block = λ k i n t e. chain_none k i (d + n) t e ∙ tail_further d n t;
  too_many = λ i n g t next. chain_many i (d + n) g t next.is ∙ rw (add_assoc d n g);
  refused_block = λ k i n g t r next read. next_further d k i n g t next (refused r) read;
  streamed_block = λ k i n g t b next read e. next_further d k i n g t next (accepted b) read ∙ rw e;
  plain_block = plain;
})
  where
    linked_further : (b : Block) (o : Outcome Chain)
        → ◌>>=◌ (further (moved_chain d) d o) (λ c. accepted (linked (moved_block d b) c)) ≡ further (moved_chain d) d (◌>>=◌ o (λ c. accepted (linked b c)))
    linked_further b (accepted c) = refl
    linked_further b (refused r) = refl

    plain : (k i n g : ℕ) (t : Bytes) (b : Block) (o : Outcome Chain) → Next t g → block i (n + g) (drop g t) ≡ accepted b → is_streamed b.flags ≡ false
        → chain k (i + 1) (d + (n + g + extent b)) (drop (extent b) (drop g t)) ≡ further (moved_chain d) d o
        → chain (suc k) i (d + n) t ≡ further (moved_chain d) d (◌>>=◌ o (λ c. accepted (linked b c)))
    plain k i n g t b o next read e h =
        next_further d k i n g t next (accepted b) read ∙ rw (e, add_assoc d (n + g) (extent b), h) (linked_further b o)

-- A record `d` bytes further on in the outermost file.
abbrev pub moved_record : ℕ → Record → Record
moved_record d r = record { depth = r.depth; at = record { 0 = d + r.at.0 }; block = r.block; inner = r.inner }

-- What is inside a block, `d` bytes further on in the outermost file.
abbrev moved_inside : ℕ → Inside → Inside
moved_inside d i = record { state = i.state; records = map (moved_record d) i.records }

-- The records of a file, `d` bytes further on in the outermost file. The place of a refusal counts from the first byte
-- of the file itself, so it does not change.
abbrev pub moved_records : ℕ → Outcome (List Record) → Outcome (List Record)
moved_records d o = ◌>>=◌ o (λ rs. accepted (map (moved_record d) rs))

module _ (reads : ℕ → Bytes → Inside) (d : ℕ) (moves : (n : ℕ) (t : Bytes) → reads (d + n) t ≡ moved_inside d (reads n t))
    (depth start : ℕ) (s : Bytes) where
  inside_further : (b : Block) → inside reads (d + start) s b ≡ moved_inside d (inside reads start s b)
  unfolding inside
  inside_further b = go (is_file b (content_of b s))
    where
      go : (x : Bool) → elim x [ true ↦ reads (d + start + content_at b) (content_of b s) | false ↦ closed Plain ]
          ≡ moved_inside d (elim x [ true ↦ reads (start + content_at b) (content_of b s) | false ↦ closed Plain ])
      go true = ap (λ (n : ℕ). reads n (content_of b s)) (add_assoc d start (content_at b)) ∙ moves (start + content_at b) (content_of b s)
      go false = refl

  walk_further : (bs : List Block) → walk reads depth (d + start) s bs ≡ map (moved_record d) (walk reads depth start s bs)
  unfolding walk walked
  walk_further [] = refl
  walk_further (b ∷ bs) = rw (inside_further b, walk_further bs, add_assoc d start b.at.0, map-append)

  walk_file_further : walk_file reads depth (d + start) s ≡ moved_records d (walk_file reads depth start s)
  unfolding walk_file
  walk_file_further = on (file s)
    where
      on : (o : Outcome File) → ◌>>=◌ o (λ f. accepted (walk reads depth (d + start) s f.blocks))
          ≡ moved_records d (◌>>=◌ o (λ f. accepted (walk reads depth start s f.blocks)))
      on (accepted f) = ap accepted (walk_further f.blocks)
      on (refused r) = refl

opened_further : (d : ℕ) (o : Outcome (List Record)) → opened (moved_records d o) ≡ moved_inside d (opened o)
unfolding opened
opened_further d (accepted rs) = refl
opened_further d (refused r) = refl

-- The records of a file read the same `d` bytes further on in the outermost file.
pub records_further : (d levels depth start : ℕ) (s : Bytes) → records_from levels depth (d + start) s ≡ moved_records d (records_from levels depth start s)
unfolding records_from
records_further d zero depth start s = walk_file_further (λ n t. closed TooDeep) d (λ n t. refl) depth start s
records_further d (suc levels) depth start s =
    walk_file_further (λ n t. opened (records_from levels (depth + 1) n t)) d
    (λ n t. ap opened (records_further d levels (depth + 1) n t) ∙ opened_further d (records_from levels (depth + 1) n t)) depth start s
