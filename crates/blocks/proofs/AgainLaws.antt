-- Laws about a header that is read again: one for each return, and what is read of a block that was accepted.
use Prim.Native.Nat.{ℕ, ◌+◌, ◌-◌, ◌%◌, ◌≤◌, ◌<◌, ◌^◌}
use native.Mathlib.Omega.{arith}
use mathlib.Core.Path.{◌≡◌, refl, sym, ap, ◌∙◌}
use mathlib.Core.Bool.{Bool, true, false}
use lib.ListN.{length}
use lib.Dec.{leb}
use mir.Syntax.{w64}
use mir.Val.{Fits}
use borrow.Author.Tests.{le-leb, lt-leb, eq-eqb, ne_eqb}
use Rattle.format.specs.declared.block.Block.{Block}
use Rattle.format.specs.Bytes.{Bytes}
use Rattle.format.specs.Block.{flags, allocated_size, used_size, data_size, least_block, is_streamed, is_compressed, has_checksum, content_start, bytes_left, block_with, sound_block, Sound}
use Rattle.blocks.specs.declared.again.Summary.{Summary}
use Rattle.blocks.specs.declared.again.Content.{Content}
use Rattle.blocks.specs.Block.{FieldRead}
use Rattle.blocks.specs.Again.{reported, blank_block, block_again, blank_summary, summary_again, streamed_again, no_content, content_again}

module _ (t : Bytes) (size : ℕ) where
  -- For a streamed block every reported size is the number of bytes left.
  pub reported_left : is_streamed (flags t) ≡ true → reported t size ≡ bytes_left t
  unfolding reported
  reported_left h = rw (reported, h)

  -- For any other block the reported size is the stored size.
  pub reported_stored : is_streamed (flags t) ≡ false → reported t size ≡ size
  unfolding reported
  reported_stored h = rw (reported, h)

module _ (t : Bytes) where
  -- If `t` is too short for a header, what is read of it is blank. This law and the next three state it for each
  -- function.
  pub block_blank : (i n : ℕ) → length t < least_block → blank_block i n ≡ block_again i n t
  unfolding block_again
  block_blank i n h = rw (block_again, lt-leb least_block (length t) h)

  pub streamed_blank : length t < least_block → false ≡ streamed_again t
  unfolding streamed_again
  streamed_blank h = rw (streamed_again, lt-leb least_block (length t) h)

  pub summary_blank : length t < least_block → blank_summary ≡ summary_again t
  unfolding summary_again
  summary_blank h = rw (summary_again, lt-leb least_block (length t) h)

  pub content_blank : length t < least_block → (c : Content) → c ≡ no_content → c ≡ content_again t
  unfolding content_again
  content_blank h c e = rw (e, content_again, lt-leb least_block (length t) h)

  -- If the block is streamed, its reported size is the number of bytes left. Otherwise it is the stored size (the next
  -- law).
  pub size_streamed : (f stored : ℕ) → FieldRead t 6 10 f → f % 2 ≡ 1 → (r : ℕ) → r ≡ bytes_left t → r ≡ reported t stored
  size_streamed f stored bits s r e = e ∙ sym (reported_left t stored (rw (← bits.is) (eq-eqb (f % 2) 1 s)))

  pub size_stored : (f stored : ℕ) → FieldRead t 6 10 f → (f % 2 ≡ 1 → ⊥) → stored ≡ reported t stored
  size_stored f stored bits s = sym (reported_stored t stored (rw (← bits.is) (ne_eqb (f % 2) 1 s)))

  module _ (long : least_block ≤ length t) where
    -- If `t` is long enough for a header, the block that is read again is made of the numbers in the header.
    pub block_made : (i n h f c a a' u u' d d' high low : ℕ) → FieldRead t 4 6 h → FieldRead t 6 10 f → FieldRead t 10 14 c
        → FieldRead t 14 22 a → a' ≡ reported t a → FieldRead t 22 30 u → u' ≡ reported t u → FieldRead t 30 38 d → d' ≡ reported t d
        → FieldRead t 38 46 high → FieldRead t 46 54 low
        → ◌≡◌ {A = Block} (record {
          ordinal = i;
          at = record { 0 = n };
          header_size = h;
          flags = f;
          compression = c;
          allocated = a';
          used = u';
          data_size = d';
          checksum_high = high;
          checksum_low = low;
        }) (block_again i n t)
    unfolding block_again block_with
    block_made i n h f c a a' u u' d d' high low rh rf rc ra sa ru su rd sd rx ry =
        rw (block_again, le-leb least_block (length t) long, block_with, rh.is, rf.is, rc.is, sa, ra.is, su, ru.is, sd, rd.is, rx.is, ry.is)

    -- If `t` is long enough for a header, the flags decide whether the block is streamed.
    pub streamed_told : (f : ℕ) → FieldRead t 6 10 f → is_streamed f ≡ streamed_again t
    unfolding streamed_again
    streamed_told f bits = rw (streamed_again, le-leb least_block (length t) long, bits.is)

    -- The summary is made of the numbers in the header too.
    pub summary_made : (h f c a a' u u' high low : ℕ) (compressed checksum : Bool) → FieldRead t 4 6 h → FieldRead t 6 10 f
        → FieldRead t 10 14 c → compressed ≡ is_compressed c → FieldRead t 38 46 high → FieldRead t 46 54 low → checksum ≡ has_checksum high low
        → FieldRead t 14 22 a → a' ≡ reported t a → FieldRead t 22 30 u → u' ≡ reported t u
        → ◌≡◌ {A = Summary} (record {
          header_size = h;
          streamed = is_streamed f;
          compressed = compressed;
          checksum = checksum;
          allocated = a';
          used = u';
        }) (summary_again t)
    unfolding summary_again
    summary_made h f c a a' u u' high low compressed checksum rh rf rc ec rx ry ex ra sa ru su =
        rw (summary_again, le-leb least_block (length t) long, ec, ex, sa, su, rh.is, rf.is, rc.is, rx.is, ry.is, ra.is, ru.is)

    module _ (h : ℕ) (rh : FieldRead t 4 6 h) where
      -- If `t` ends inside the header, there is no content.
      pub content_cut : length t < 6 + h → (c : Content) → c ≡ no_content → c ≡ content_again t
      unfolding content_again
      content_cut q c e =
          let cut : leb (content_start t) (length t) ≡ false = lt-leb (content_start t) (length t) (omega (arith, rh.is)) in
          rw (e, content_again, le-leb least_block (length t) long, cut)

      module _ (q : 6 + h ≤ length t) (u u' : ℕ) (ru : FieldRead t 22 30 u) (su : u' ≡ reported t u) where
        left_is : length t - (6 + h) ≡ bytes_left t
        left_is = omega (arith, rh.is)

        used_is : u' ≡ reported t (used_size t)
        used_is = su ∙ ap (reported t) ru.is

        -- If fewer bytes follow the header than are used, there is no content.
        pub content_beyond : length t - (6 + h) < u' → (c : Content) → c ≡ no_content → c ≡ content_again t
        unfolding content_again
        content_beyond k c e =
            let whole : leb (content_start t) (length t) ≡ true = le-leb (content_start t) (length t) (omega (arith, rh.is)) in
            let beyond : leb (reported t (used_size t)) (bytes_left t) ≡ false = lt-leb (reported t (used_size t)) (bytes_left t) (omega (arith, left_is, used_is)) in
            rw (e, content_again, le-leb least_block (length t) long, whole, beyond)

        -- Case: the content is inside `t`.
        module _ (k : u' ≤ length t - (6 + h)) where
          pub content_fits : length t < 2 ^ 64 → Fits w64 (6 + h + u')
          content_fits l = omega arith

          pub content_made : (c : ℕ) (compressed : Bool) → FieldRead t 10 14 c → compressed ≡ is_compressed c
              → ◌≡◌ {A = Content} (record { from = 6 + h; to = 6 + h + u'; compressed = compressed }) (content_again t)
          unfolding content_again
          content_made c compressed rc ec =
              let whole : leb (content_start t) (length t) ≡ true = le-leb (content_start t) (length t) (omega (arith, rh.is)) in
              let inside : leb (reported t (used_size t)) (bytes_left t) ≡ true = le-leb (reported t (used_size t)) (bytes_left t) (omega (arith, left_is, used_is)) in
              rw (content_again, le-leb least_block (length t) long, whole, inside, ec, rc.is, ← used_is, rh.is)

-- If a block is sound, reading it again gives the block that was accepted.
pub block_again_lem : (t : Bytes) → Sound t → (i n : ℕ) → block_again i n t ≡ sound_block i n t
unfolding block_again sound_block
block_again_lem t sound i n = go (is_streamed (flags t)) refl
  where
    long : leb least_block (length t) ≡ true
    long = le-leb least_block (length t) (omega (arith, sound.least, sound.whole))

    go : (y : Bool) → is_streamed (flags t) ≡ y → block_again i n t ≡ sound_block i n t
    go true e =
        rw (block_again, long, reported_left t (allocated_size t) e, reported_left t (used_size t) e, reported_left t (data_size t) e, sound_block, e)
    go false e =
        rw (block_again, long, reported_stored t (allocated_size t) e, reported_stored t (used_size t) e, reported_stored t (data_size t) e, sound_block, e)

-- If a block is sound, reading it again tells whether it is streamed.
pub sound_streamed : (t : Bytes) → Sound t → streamed_again t ≡ is_streamed (flags t)
unfolding streamed_again
sound_streamed t sound = rw (streamed_again, le-leb least_block (length t) (omega (arith, sound.least, sound.whole)))
