-- Laws about a block's header: one for each return of the tests, and where an accepted block leads.
use Prim.Native.Nat.{ℕ, ◌+◌, ◌-◌, ◌%◌, ◌^◌, ◌≤◌, ◌<◌}
use native.Mathlib.Nat.{lt_of_lt_of_le, mod-eq_of_lt, pow-le-pow_right}
use native.Mathlib.Omega.{arith}
use mathlib.Core.Path.{◌≡◌, sym, ◌∙◌}
use mathlib.Core.Bool.{Bool, true, false, not, ◌||◌, true≢false}
use lib.ListN.{length, take, drop, get_or, length-drop}
use lib.Seq.{length-take-le}
use lib.Dec.{leb, eqb}
use mir.Syntax.{w8, w64}
use mir.Val.{Fits}
use borrow.Author.Tests.{le-leb, lt-leb, eq-eqb, ne_eqb, not-true, not-false}
use Rattle.format.specs.declared.block.Block.{Block}
use Rattle.std.specs.Prelude.{Result, Ok, Err}
use Rattle.format.specs.declared.refusal.Reason.{Reason}
use Rattle.format.specs.declared.refusal.Reason.TheVariants.{HeaderPassesEnd, HeaderTooSmall, UsedAboveAllocated, DataSizeDiffers, AllocatedPassesEnd}
use Rattle.format.specs.Bytes.{Bytes}
use Rattle.format.specs.Outcome.{Outcome, accepted, need, ◌>>◌}
use Rattle.format.specs.Block.{header_size, flags, compression, data_size, least_header, is_streamed, is_compressed, content_start, block_with, block, Sound}
use Rattle.format.proofs.PackLaws.{is_bytes_take, is_bytes_drop, big_endian_lt}
use Rattle.scan.specs.Number.{BigEndian}
use Rattle.blocks.specs.declared.step.Link.TheVariants as Link·is
use Rattle.blocks.specs.Block.{IsField, FieldRead, HeaderRead, sound_link, Checked}

-- The number in a field of at most eight bytes fits into 64 bits, so nothing of it is lost when it is read.
pub field_read : (t : Bytes) (from to r : ℕ) → ((i : ℕ) → Fits w8 (get_or t i 0)) → IsField t from to → BigEndian (take (to - from) (drop from t)) r → FieldRead t from to r
field_read t from to r bytes field read =
    let size : length (take (to - from) (drop from t)) ≡ to - from = length-take-le (to - from) (drop from t) (simp length-drop (omega (arith, field))) in
    let small = big_endian_lt (take (to - from) (drop from t)) (is_bytes_take (to - from) (drop from t) (is_bytes_drop from t (λ i. (bytes i).fits))) in
    let few : 256 ^ (to - from) ≤ 2 ^ 64 = pow-le-pow_right (omega arith) field.short in
    record {
      is = read.is ∙ mod-eq_of_lt (lt_of_lt_of_le (rw size at small) few);
      fits = rw size at read.small;
    }

-- The data of a compressed block may have any size.
pub compressed_size : (size compression used : ℕ) (x : Bool) → x ≡ is_compressed compression → x ≡ true → true ≡ (is_compressed compression || eqb size used)
compressed_size size compression used x e h = rw (sym e ∙ h)

-- The data of a block without compression must have the used size.
pub plain_size : (size compression used : ℕ) (x : Bool) → x ≡ is_compressed compression → x ≡ false → eqb size used ≡ (is_compressed compression || eqb size used)
plain_size size compression used x e h = rw (sym e ∙ h)

-- Block `i` at offset `n`, judged by its allocated size `a`, its used size `u` and its data size `d`. `left` bytes
-- follow its header, and `ok` states whether its data may have its size.
abbrev sized : ℕ → ℕ → Bytes → ℕ → ℕ → ℕ → ℕ → Bool → Outcome Block
sized i n t left a u d ok = do
  need (leb u a) UsedAboveAllocated n
  need ok DataSizeDiffers n
  need (leb a left) AllocatedPassesEnd n
  accepted (block_with i n t a u d)

module _ (t : Bytes) (left : ℕ) (header : HeaderRead t left) (a u : ℕ) (ra : FieldRead t 14 22 a) (ru : FieldRead t 22 30 u) where
  -- If the header is whole and the block is not streamed, the sizes decide.
  header_sized : (i n : ℕ) → block i n t ≡ sized i n t left a u (data_size t) (is_compressed (compression t) || eqb (data_size t) u)
  unfolding block
  header_sized i n =
      rw (
        le-leb 6 (length t) (omega (arith, header.whole)),
        le-leb least_header (header_size t) header.least,
        le-leb (content_start t) (length t) header.whole,
        header.plain,
        header.after,
        ra.is,
        ru.is,
      )

  -- If the used size is above the allocated size, the refusal is 13.
  pub sizes_used : a < u → Checked t (Err UsedAboveAllocated)
  sizes_used h = λ i n. rw (header_sized i n, lt-leb u a h)

  module _ (d c : ℕ) (rd : FieldRead t 30 38 d) (rc : FieldRead t 10 14 c) (ok : Bool) (is : ok ≡ (is_compressed c || eqb d u)) (h : u ≤ a) where
    -- The sizes decide in the same way with `ok`, which is computed from the numbers that were read.
    data_sized : (i n : ℕ) → block i n t ≡ sized i n t left a u (data_size t) ok
    data_sized i n = header_sized i n ∙ rw (is, rc.is, rd.is)

    -- If there is no compression and the data size is not the used size, the refusal is 14.
    pub sizes_data : not ok ≡ true → Checked t (Err DataSizeDiffers)
    sizes_data k = λ i n. rw (data_sized i n, le-leb u a h, not-true ok k)

    -- If the other sizes are good but more is allocated than the file has left, the refusal is 15.
    pub sizes_beyond : not ok ≡ false → left < a → Checked t (Err AllocatedPassesEnd)
    sizes_beyond k q = λ i n. rw (data_sized i n, le-leb u a h, not-false ok k, lt-leb a left q)

    -- If all sizes are good, the check passes.
    pub sizes_good : not ok ≡ false → a ≤ left → Checked t (Ok tt)
    sizes_good k q = record {
      least = header.least;
      whole = header.whole;
      sizes = λ _. record {
        used = omega (arith, ra.is, ru.is);
        data_size = rw (← rc.is, ← rd.is, ← ru.is, ← is) (not-false ok k);
        allocated = omega (arith, ra.is, header.after);
      };
    }

-- If the file ends before the end of the header size, the refusal is 11.
pub block_short : (t : Bytes) → length t < 6 → Checked t (Err HeaderPassesEnd)
unfolding block
block_short t p = λ i n. rw (lt-leb 6 (length t) p)

module _ (t : Bytes) (h : ℕ) (read : FieldRead t 4 6 h) (p : 6 ≤ length t) where
  -- If the header size is below the minimum, the refusal is 12.
  pub block_small : h < least_header → Checked t (Err HeaderTooSmall)
  unfolding block
  block_small q = λ i n. rw (le-leb 6 (length t) p, ← read.is, lt-leb least_header h q)

  -- If the file ends inside the header, the refusal is 11.
  pub block_cut : least_header ≤ h → length t < 6 + h → Checked t (Err HeaderPassesEnd)
  unfolding block
  block_cut q k = λ i n. rw (le-leb 6 (length t) p, ← read.is, le-leb least_header h q, lt-leb (6 + h) (length t) k)

module _ (t : Bytes) (h f : ℕ) (read : FieldRead t 4 6 h) (least : least_header ≤ h) (whole : 6 + h ≤ length t) (bits : FieldRead t 6 10 f) where
  -- If the block is streamed, the check passes, because all bytes that are left belong to it.
  pub block_streamed : f % 2 ≡ 1 → Checked t (Ok tt)
  block_streamed s = record {
    least = omega (arith, read.is);
    whole = omega (arith, read.is);
    sizes = λ k. absurd (true≢false (sym (eq-eqb (f % 2) 1 s) ∙ rw (← bits.is) at k));
  }

  -- If the block is not streamed, its sizes must be read.
  pub header_read : (f % 2 ≡ 1 → ⊥) → HeaderRead t (length t - (6 + h))
  header_read s = record {
    least = omega (arith, read.is);
    whole = omega (arith, read.is);
    plain = rw (← bits.is) (ne_eqb (f % 2) 1 s);
    after = omega (arith, read.is);
  }

-- A block that passed the check is sound.
pub block_sound : (t : Bytes) (x : Result (Unit {0}) Reason) (u : Unit {0}) → Checked t x → x ≡ Ok u → Sound t
block_sound t x u checked h = rw h at checked

module _ (t : Bytes) (f : ℕ) (bits : FieldRead t 6 10 f) where
  -- A streamed block leads to no other block.
  pub link_streamed : f % 2 ≡ 1 → Link·is.Streamed ≡ sound_link t
  unfolding sound_link
  link_streamed s = rw (sound_link, ← bits.is, eq-eqb (f % 2) 1 s)

  -- A block that is not streamed leads to the end of its allocated space.
  pub link_plain : (h a : ℕ) → FieldRead t 4 6 h → FieldRead t 14 22 a → (f % 2 ≡ 1 → ⊥) → Link·is.Block (6 + h + a) ≡ sound_link t
  unfolding sound_link
  link_plain h a rh ra s = rw (sound_link, ← bits.is, ne_eqb (f % 2) 1 s, rh.is, ra.is)

-- If a sound block is not streamed, its allocated space ends inside `t`, so that end fits into 64 bits.
pub link_fits : (t : Bytes) (f h a : ℕ) → Sound t → FieldRead t 6 10 f → FieldRead t 4 6 h → FieldRead t 14 22 a → (f % 2 ≡ 1 → ⊥) → length t < 2 ^ 64
    → Fits w64 (6 + h + a)
link_fits t f h a s bits rh ra k l =
    let plain : is_streamed (flags t) ≡ false = rw (← bits.is) (ne_eqb (f % 2) 1 k) in
    omega (arith, rh.is, ra.is, s.whole, (s.sizes plain).allocated)
