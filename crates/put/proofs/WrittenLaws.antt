-- Laws about what a writer answers and what it leaves in the buffer, in three cases: a refusal, a buffer that is too
-- short, and bytes that fit.
use Rattle.std.proofs.Common.{◌≡◌, ℕ, ◌+◌, ◌^◌, ◌<◌, ◌≤◌, Bool, true, false, leb, length, take, drop, sym, refl, ap, ◌∙◌, arith, le-leb, leb-true}
use lib.Seq.{take-append_seam}
use borrow.Author.Tests.{lt-leb}
use Rattle.format.specs.declared.refusal.Reason.TheVariants.{BufferTooShort}
use Rattle.format.specs.Bytes.{Bytes}
use Rattle.format.specs.Lent.{placed, writes, leaves}
use Rattle.format.specs.Outcome.{Refusal, Outcome, accepted, refused, refusal}
use Rattle.format.specs.Promise.{Written}
use Rattle.put.specs.Put.{PutWhole, PutAt}
use Rattle.put.proofs.PutLaws.{placed_none}

module _ (result : Outcome Bytes) (out : Bytes) where
  -- If the result is a refusal, no byte changes.
  pub written_refused : (r : Refusal) → result ≡ refused r → (x : Outcome ℕ) → x ≡ refused r → Written result out out x
  unfolding writes leaves
  written_refused r h x e = rw (h, e) (record { answer = refl; buffer = refl })

  module _ (bytes : Bytes) (h : result ≡ accepted bytes) where
    -- If the bytes do not fit, the answer is refusal 21 and no byte changes.
    pub written_short : length out < length bytes → (x : Outcome ℕ) → x ≡ refused (refusal BufferTooShort 0) → Written result out out x
    unfolding writes leaves
    written_short p x e =
        rw (h, e) (record { answer = rw (lt-leb (length bytes) (length out) p); buffer = placed_none out 0 bytes (omega arith) })

    -- If the bytes fit and are placed at the start of the buffer, the answer is how many bytes they are.
    pub written_placed : length bytes ≤ length out → (after : Bytes) → after ≡ placed out 0 bytes → (n : ℕ) → n ≡ length bytes
        → Written result out after (accepted n)
    unfolding writes leaves
    written_placed p after f n e = rw (h, e) (record { answer = rw (le-leb (length bytes) (length out) p); buffer = f })

-- Either the buffer is too short for a text, or the text is written.
module _ (t out : Bytes) where
  pub text_short : length out < length t → (x : Outcome ℕ) → x ≡ refused (refusal BufferTooShort 0) → Written (accepted t) out out x
  text_short = written_short (accepted t) out t refl

  pub text_written : length t ≤ length out → (after : Bytes) (most r : ℕ) → PutWhole out after 0 t most r → Written (accepted t) out after (accepted (length t))
  text_written h after most r put = written_placed (accepted t) out t refl h after put.buffer (length t) refl

-- If bytes fit and are placed at the start of a buffer, they are its first bytes.
start_placed : (out bytes : Bytes) → length bytes ≤ length out → take (length bytes) (placed out 0 bytes) ≡ bytes
unfolding placed
start_placed out bytes h = rw (placed, le-leb (0 + length bytes) (length out) (omega arith)) (take-append_seam bytes (drop (0 + length bytes) out))

-- A buffer has `most` bytes. At most that many bytes were put at its start, and they end at `n`. So they are the first
-- `n` bytes of the buffer.
module _ (own after bytes : Bytes) (most n : ℕ) (put : PutAt own after 0 bytes most n) (room : length own ≡ most) (small : most < 2 ^ 64) where
  own_size : n ≡ length bytes
  own_size = omega (arith, put.end, put.few)

  pub own_inside : n ≤ length after
  own_inside = omega (arith, own_size, put.few, put.size)

  pub own_bytes : take n after ≡ bytes
  own_bytes =
      let all = put.buffer (omega (arith, put.few)) (omega (arith, put.few)) in
      rw (own_size, all) (start_placed own bytes (omega (arith, put.few)))

  pub own_length : length (take n after) ≡ n
  own_length = ap length own_bytes ∙ sym own_size

-- The result is accepted, and it is the first `n` bytes of a buffer.
pub record Taken (result : Outcome Bytes) (after : Bytes) (n : ℕ) : Type 0 where
  pub is : result ≡ accepted (take n after)
  pub size : length (take n after) ≡ n

-- If a writer answers that it has written `n` bytes, they are the result and they are at the start of the buffer.
pub written_taken : (result : Outcome Bytes) (before after : Bytes) (n : ℕ) → Written result before after (accepted n) → Taken result after n
unfolding writes leaves
written_taken (refused r) before after n w = let clash = w.answer in let z : ◌≡◌ {A = ℕ} 0 1 = cc in absurd (omega arith)
written_taken (accepted bytes) before after n w = by_test (leb (length bytes) (length before)) refl
  where
    by_test : (t : Bool) → leb (length bytes) (length before) ≡ t → Taken (accepted bytes) after n
    by_test true e =
        let size : accepted n ≡ accepted (length bytes) = rw e at w.answer in
        let count : n ≡ length bytes = cc in
        let start : take n after ≡ bytes = rw (count, w.buffer) (start_placed before bytes (leb-true (length bytes) (length before) e)) in
        record { is = ap accepted (sym start); size = ap length start ∙ sym count }
    by_test false e =
        let clash : accepted n ≡ refused (refusal BufferTooShort 0) = rw e at w.answer in
        let z : ◌≡◌ {A = ℕ} 0 1 = cc in
        absurd (omega arith)
