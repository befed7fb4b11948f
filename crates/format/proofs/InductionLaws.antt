-- The induction over the chain of blocks: what holds in each of its cases holds for every chain.
use Rattle.std.proofs.Common.{◌≡◌, ℕ, zero, suc, ◌+◌, Bool, true, false, [], drop, refl}
use Rattle.std.specs.Prelude.{None}
use Rattle.format.specs.declared.block.Block.{Block}
use Rattle.format.specs.declared.refusal.Reason.TheVariants.{TooManyBlocks, StrayTail}
use Rattle.format.specs.Bytes.{Bytes}
use Rattle.format.specs.Outcome.{Refusal, Outcome, accepted, refused, refusal, ◌>>=◌}
use Rattle.format.specs.Block.{is_streamed, block}
use Rattle.format.specs.Chain.{Chain, extent, is_tail, ended, linked, next_block, tail, linked_at, chain}
use Rattle.format.proofs.OutcomeLaws.{Accepts, accepted_holds, accepts_need, found_choice}
use Rattle.format.proofs.NextLaws.{Next, next_is}

-- What must be shown for a statement `P` about the outcome of a chain.
pub record ChainCases (P : ℕ → ℕ → ℕ → Bytes → Outcome Chain → Type 0) : Type 0 where
  -- Case: no block follows.
  pub no_block : (k i n : ℕ) (t : Bytes) → next_block t ≡ None → P k i n t (tail n t)
  -- Case: a block follows, but no further block is allowed.
  pub too_many : (i n g : ℕ) (t : Bytes) → Next t g → P zero i n t (refused (refusal TooManyBlocks (n + g)))
  -- Case: a block follows, and it is refused.
  pub refused_block : (k i n g : ℕ) (t : Bytes) (r : Refusal) → Next t g → block i (n + g) (drop g t) ≡ refused r → P (suc k) i n t (refused r)
  -- Case: a streamed block follows.
  pub streamed_block : (k i n g : ℕ) (t : Bytes) (b : Block) → Next t g → block i (n + g) (drop g t) ≡ accepted b → is_streamed b.flags ≡ true
      → P (suc k) i n t (accepted (linked b (ended [])))
  -- Case: a block follows that is not streamed, and `o` is the outcome of the chain after it.
  pub plain_block : (k i n g : ℕ) (t : Bytes) (b : Block) (o : Outcome Chain) → Next t g → block i (n + g) (drop g t) ≡ accepted b
      → is_streamed b.flags ≡ false → P k (i + 1) (n + g + extent b) (drop (extent b) (drop g t)) o
      → P (suc k) i n t (◌>>=◌ o (λ c. accepted (linked b c)))

module _ {P : ℕ → ℕ → ℕ → Bytes → Outcome Chain → Type 0} (cases : ChainCases P) where
  -- `P` holds for every chain.
  pub chain_induction : (k i n : ℕ) (t : Bytes) → P k i n t (chain k i n t)
  unfolding chain linked_at
  chain_induction zero i n t = found_choice (P zero i n t) (next_block t) _ _ (cases.no_block zero i n t) (λ g e. cases.too_many i n g t (next_is t g e))
  chain_induction (suc k) i n t =
      found_choice (P (suc k) i n t) (next_block t) _ _ (cases.no_block (suc k) i n t)
      λ g e. at_block g (next_is t g e) (block i (n + g) (drop g t)) refl (chain_induction k (i + 1))
    where
      -- Splits into cases by whether the block is streamed.
      after_block : (g : ℕ) → Next t g → (b : Block) → block i (n + g) (drop g t) ≡ accepted b → (streamed : Bool) → is_streamed b.flags ≡ streamed
          → (o : Outcome Chain) → P k (i + 1) (n + g + extent b) (drop (extent b) (drop g t)) o
          → P (suc k) i n t (◌>>=◌ (elim streamed [ true ↦ accepted (ended []) | false ↦ o ]) (λ c. accepted (linked b c)))
      after_block g next b read true e o h = cases.streamed_block k i n g t b next read e
      after_block g next b read false e o h = cases.plain_block k i n g t b o next read e h

      -- Splits into cases by whether the block is accepted.
      at_block : (g : ℕ) → Next t g → (o : Outcome Block) → block i (n + g) (drop g t) ≡ o → ((m : ℕ) (u : Bytes) → P k (i + 1) m u (chain k (i + 1) m u))
          → P (suc k) i n t (◌>>=◌ o (λ b. ◌>>=◌ (elim (is_streamed b.flags) [
            | true ↦ accepted (ended [])
            | false ↦ chain k (i + 1) (n + g + extent b) (drop (extent b) (drop g t))
          ]) (λ c. accepted (linked b c))))
      at_block g next (refused r) read h = cases.refused_block k i n g t r next read
      at_block g next (accepted b) read h =
          after_block g next b read (is_streamed b.flags) refl (chain k (i + 1) (n + g + extent b) (drop (extent b) (drop g t)))
          (h (n + g + extent b) (drop (extent b) (drop g t)))

-- What must be shown for a statement `P` about accepted chains.
pub record AcceptedCases (P : ℕ → ℕ → ℕ → Bytes → Chain → Type 0) : Type 0 where
  -- Case: a tail begins.
  pub no_block : (k i n : ℕ) (t : Bytes) → is_tail t ≡ true → P k i n t (ended t)
  -- Case: a streamed block follows.
  pub streamed_block : (k i n g : ℕ) (t : Bytes) (b : Block) → Next t g → block i (n + g) (drop g t) ≡ accepted b → is_streamed b.flags ≡ true
      → P (suc k) i n t (linked b (ended []))
  -- Case: a block follows that is not streamed, and `c` is the chain after it.
  pub plain_block : (k i n g : ℕ) (t : Bytes) (b : Block) (c : Chain) → Next t g → block i (n + g) (drop g t) ≡ accepted b
      → is_streamed b.flags ≡ false → P k (i + 1) (n + g + extent b) (drop (extent b) (drop g t)) c → P (suc k) i n t (linked b c)

module _ {P : ℕ → ℕ → ℕ → Bytes → Chain → Type 0} (cases : AcceptedCases P) where
  -- The cases for `P` give the cases for "if the chain is accepted, `P` holds for it".
  accepts_cases : ChainCases (λ k i n t o. Accepts (P k i n t) o)
  unfolding tail
  accepts_cases = record {
    no_block = λ k i n t e. accepts_need (P k i n t) (is_tail t) StrayTail n (accepted (ended t)) (cases.no_block k i n t);
    too_many = λ i n g t next. tt;
    refused_block = λ k i n g t r next read. tt;
    streamed_block = cases.streamed_block;
    plain_block = plain;
  }
    where
      plain : (k i n g : ℕ) (t : Bytes) (b : Block) (o : Outcome Chain) → Next t g → block i (n + g) (drop g t) ≡ accepted b → is_streamed b.flags ≡ false
          → Accepts (P k (i + 1) (n + g + extent b) (drop (extent b) (drop g t))) o → Accepts (P (suc k) i n t) (◌>>=◌ o (λ c. accepted (linked b c)))
      plain k i n g t b (accepted c) next read e h = cases.plain_block k i n g t b c next read e h
      plain k i n g t b (refused r) next read e h = tt

  -- `P` holds for every accepted chain.
  pub accepted_chain : {k i n : ℕ} {t : Bytes} {c : Chain} → chain k i n t ≡ accepted c → P k i n t c
  accepted_chain {k} {i} {n} {t} {c} = accepted_holds (P k i n t) (chain k i n t) c (chain_induction accepts_cases k i n t)
