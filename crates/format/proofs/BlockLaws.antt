-- All that is known about an accepted block.
use Rattle.std.proofs.Common.{◌≡◌, ℕ, ◌+◌, ◌<◌, ◌≤◌, Bool, true, false, ◌||◌, eqb, leb, length, sym, refl, ◌∙◌, true≢false, le_refl, arith, le-leb, leb-true}
use Rattle.format.specs.declared.block.Block.{Block}
use Rattle.format.specs.Bytes.{Bytes, IsBytes}
use Rattle.format.specs.Outcome.{accepted}
use Rattle.format.specs.Block.{header_size, flags, compression, allocated_size, used_size, data_size, least_header, is_streamed, is_compressed, content_start, bytes_left, block_with, block, sound_block, SoundSizes, Sound}
use Rattle.format.specs.Chain.{extent}
use Rattle.format.proofs.OutcomeLaws.{Accepts, accepted_holds, accepts_need, accepts_choice}
use Rattle.format.proofs.PackLaws.{number_lt}

-- All that is known if the bytes `t` at offset `n` begin with block `i`, and `b` is that block.
pub record BlockIs (i n : ℕ) (t : Bytes) (b : Block) : Type 0 where
  pub sound : Sound t
  pub is : b ≡ sound_block i n t
  pub ordinal : b.ordinal ≡ i
  pub at : b.at.0 ≡ n
  pub same_flags : b.flags ≡ flags t
  pub header_least : least_header ≤ b.header_size
  pub header_most : IsBytes t → b.header_size < 65536
  pub used : b.used ≤ b.allocated
  pub inside : extent b ≤ length t
  pub streamed : is_streamed (flags t) ≡ true → extent b ≡ length t
  pub plain : is_streamed (flags t) ≡ false → extent b ≡ content_start t + allocated_size t

module _ (i n : ℕ) (t : Bytes) where
  -- `BlockIs` holds for a block with these sizes, if the sizes keep their bounds and are those of a sound block.
  with_sizes : (a u d : ℕ) → Sound t → block_with i n t a u d ≡ sound_block i n t → u ≤ a → a ≤ bytes_left t
      → (is_streamed (flags t) ≡ true → a ≡ bytes_left t) → (is_streamed (flags t) ≡ false → a ≡ allocated_size t)
      → BlockIs i n t (block_with i n t a u d)
  unfolding block_with
  with_sizes a u d sound is used room streamed plain = record {
    sound = sound;
    is = is;
    ordinal = refl;
    at = refl;
    same_flags = refl;
    header_least = sound.least;
    header_most = number_lt 4 2 t;
    used = used;
    inside = omega (arith, sound.whole);
    streamed = λ h. omega (arith, sound.whole, streamed h);
    plain = λ h. omega (arith, plain h);
  }

  module _ (least : leb least_header (header_size t) ≡ true) (whole : leb (content_start t) (length t) ≡ true) where
    -- If a block is streamed and its tests hold, `BlockIs` holds for it.
    streamed_known : is_streamed (flags t) ≡ true → BlockIs i n t (block_with i n t (bytes_left t) (bytes_left t) (bytes_left t))
    unfolding sound_block
    streamed_known h =
        let sound : Sound t = record { least = leb-true _ _ least; whole = leb-true _ _ whole; sizes = λ k. absurd (true≢false (sym h ∙ k)) } in
        with_sizes (bytes_left t) (bytes_left t) (bytes_left t) sound (rw (sound_block, h)) (le_refl (bytes_left t)) (le_refl (bytes_left t)) (λ k. refl)
        (λ k. absurd (true≢false (sym h ∙ k)))

    -- If a block is not streamed and its tests hold, `BlockIs` holds for it.
    plain_known : is_streamed (flags t) ≡ false → leb (used_size t) (allocated_size t) ≡ true
        → (is_compressed (compression t) || eqb (data_size t) (used_size t)) ≡ true → leb (allocated_size t) (bytes_left t) ≡ true
        → BlockIs i n t (block_with i n t (allocated_size t) (used_size t) (data_size t))
    unfolding sound_block
    plain_known h used size allocated =
        let sizes : SoundSizes t = record { used = leb-true _ _ used; data_size = size; allocated = leb-true _ _ allocated } in
        let sound : Sound t = record { least = leb-true _ _ least; whole = leb-true _ _ whole; sizes = λ k. sizes } in
        with_sizes (allocated_size t) (used_size t) (data_size t) sound (rw (sound_block, h)) sizes.used sizes.allocated
        (λ k. absurd (true≢false (sym k ∙ h))) (λ k. refl)

  -- If a block is accepted at the start of `t`, `BlockIs` holds for it.
  block_accepts : Accepts (BlockIs i n t) (block i n t)
  unfolding block
  block_accepts = search (accepts_need, accepts_choice (BlockIs i n t) (is_streamed (flags t)), streamed_known, plain_known) depth 12

  -- A block that nothing is wrong with is accepted.
  pub sound_accepted : Sound t → block i n t ≡ accepted (sound_block i n t)
  unfolding block sound_block
  sound_accepted sound = go (is_streamed (flags t)) refl
    where
      header : leb 6 (length t) ≡ true
      header = le-leb 6 (length t) (omega (arith, sound.whole))

      least : leb least_header (header_size t) ≡ true
      least = le-leb least_header (header_size t) sound.least

      whole : leb (content_start t) (length t) ≡ true
      whole = le-leb (content_start t) (length t) sound.whole

      go : (y : Bool) → is_streamed (flags t) ≡ y → block i n t ≡ accepted (sound_block i n t)
      go true k = rw (header, least, whole, sound_block, k)
      go false k =
          let sizes = sound.sizes k in
          rw (
            header,
            least,
            whole,
            sound_block,
            k,
            le-leb (used_size t) (allocated_size t) sizes.used,
            sizes.data_size,
            le-leb (allocated_size t) (bytes_left t) sizes.allocated,
          )

-- If `b` is accepted as block `i` at offset `n`, then `BlockIs` holds for it.
pub accepted_block : {i n : ℕ} {t : Bytes} {b : Block} → block i n t ≡ accepted b → BlockIs i n t b
accepted_block {i} {n} {t} {b} = accepted_holds (BlockIs i n t) (block i n t) b (block_accepts i n t)
