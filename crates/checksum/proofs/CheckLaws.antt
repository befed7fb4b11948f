-- Laws about the check of a block's data: where the data is, its digest, and one law for each return.
use Rattle.std.proofs.Common.{◌≡◌, ℕ, ◌+◌, ◌-◌, ◌≤◌, Bool, true, false, leb, [], ◌∷◌, length, take, drop, refl, sym, ap, ◌∙◌, append-nil, arith, length-drop}
use Rattle.std.specs.Prelude.{Option, None, Some, slice_get}
use Rattle.std.specs.Option.{ok_or}
use borrow.Author.Tests.{leb-true, leb-false}
use Rattle.format.specs.declared.answer.Check.{Check}
use Rattle.format.specs.declared.answer.Check.TheVariants.{NotStated, Agrees, Differs}
use Rattle.format.specs.declared.block.Block.{Block}
use Rattle.format.specs.declared.refusal.Reason.TheVariants.{NoSuchBlock}
use Rattle.format.specs.Bytes.{Bytes}
use Rattle.format.specs.Check.{states_md5, is_checksum, check_block, named, checked}
use Rattle.format.specs.File.{File, most_bytes, file, block_at}
use Rattle.format.specs.Nest.{content_at, content_of}
use Rattle.format.specs.Outcome.{Refusal, Outcome, accepted, refused, refusal, ◌>>=◌}
use Rattle.format.proofs.BlockLaws.{accepted_block}
use Rattle.format.proofs.FileBlockLaws.{element, file_blocks}
use Rattle.format.proofs.FileLaws.{blocks_start, file_parts}
use Rattle.format.proofs.PartLaws.{no_element}
use Rattle.md5_parts.specs.declared.state.Md5.{Md5}
use Rattle.md5_parts.specs.declared.state.Fed.{Fed}
use Rattle.md5_parts.specs.Md5.{md5}
use Rattle.md5_parts.specs.State.{starting, fed, digest, fed_all, joined_all}
use Rattle.md5_parts.proofs.StateLaws.{cuts_agree}

-- The content of the block `b` is inside the file `s`, which is not too long.
pub record Inside (s : Bytes) (b : Block) : Type 0 where
  pub end : content_at b + b.used ≤ length s
  pub short : length s ≤ most_bytes

-- The block that is found by its ordinal is inside the file.
found_inside : (s : Bytes) (f : File) → file s ≡ accepted f → (j : ℕ) (b : Block) → slice_get f.blocks j ≡ Some b → Inside s b
found_inside s f e j b found = go (leb (length f.blocks) j) refl
  where
    go : (t : Bool) → leb (length f.blocks) j ≡ t → Inside s b
    go true q =
        let clash = sym (no_element f.blocks j (leb-true _ _ q)) ∙ found in
        let z : ◌≡◌ {A = ℕ} 0 1 = cc in
        absurd (omega arith)
    go false q =
        let here = element s 0 (blocks_start f) f.blocks (file_blocks s f e) j (leb-false _ _ q) j (omega arith) in
        let same-option = sym here.found ∙ found in
        let same : here.b ≡ b = cc in
        let known = accepted_block here.read in
        let whole : content_at here.b + here.b.used ≤ length s = omega (arith, known.inside, known.used, length-drop here.b.at.0 s, here.inside) in
        record { end = rw same at whole; short = leb-true _ _ (file_parts s f e).short }

block_inside : (s : Bytes) (j : ℕ) (b : Block) → block_at s j ≡ accepted (Some b) → Inside s b
unfolding block_at
block_inside s j b h = go (file s) refl
  where
    go : (o : Outcome File) → file s ≡ o → Inside s b
    go (accepted f) e =
        let some-b : accepted (slice_get f.blocks j) ≡ accepted (Some b) = rw (block_at, e) at h in
        let found : slice_get f.blocks j ≡ Some b = cc in
        found_inside s f e j b found
    go (refused r) e =
        let clash : refused r ≡ accepted (Some b) = rw (block_at, e) at h in
        let z : ◌≡◌ {A = ℕ} 0 1 = cc in
        absurd (omega arith)

-- What was found in the file `s` leads to the answer of the check.
module _ (s : Bytes) (j : ℕ) (x : Outcome (Option Block)) (read : x ≡ block_at s j) where
  -- Case: the file is refused.
  pub check_refused : (r : Refusal) → x ≡ refused r → (y : Outcome Check) → y ≡ refused r → y ≡ checked md5 s j
  unfolding checked
  check_refused r e y ey = rw (ey, checked, ← read, e)

  module _ (o : Option Block) (e : x ≡ accepted o) (n : Refusal) (en : n ≡ refusal NoSuchBlock 0) (f : Outcome Block) (ef : f ≡ ok_or o n) where
    named_is : (p : Option Block) → o ≡ p → f ≡ named p
    unfolding named
    named_is (Some b) h = rw h at ef
    named_is None h = rw (ef, h, en)

    checked_is : checked md5 s j ≡ ◌>>=◌ f (λ b. accepted (check_block md5 s b))
    unfolding checked
    checked_is = rw (checked, ← read, e, named_is o refl)

    -- Case: there is no such block.
    pub check_none : (r : Refusal) → f ≡ refused r → (y : Outcome Check) → y ≡ refused r → y ≡ checked md5 s j
    check_none r er y ey = rw (ey, checked_is, er)

    module _ (b : Block) (eb : f ≡ accepted b) where
      found_is : (p : Option Block) → o ≡ p → block_at s j ≡ accepted (Some b)
      unfolding named
      found_is (Some c) h =
          let both : accepted c ≡ accepted b = sym (named_is (Some c) h) ∙ eb in
          let same : c ≡ b = cc in
          rw (← read, e, h, same)
      found_is None h =
          let clash : refused (refusal NoSuchBlock 0) ≡ accepted b = sym (named_is None h) ∙ eb in
          let z : ◌≡◌ {A = ℕ} 0 1 = cc in
          absurd (omega arith)

      -- Case: the block is found and checked. Its content is inside the file.
      pub check_inside : Inside s b
      check_inside = block_inside s j b (found_is o refl)

      pub check_found : (c : Check) → c ≡ check_block md5 s b → accepted c ≡ checked md5 s j
      check_found c q = rw (checked_is, eb, q)

-- One part that is not too long is taken, and the digest is its MD5.
pub one_part : (s : Bytes) → length s ≤ most_bytes → (st : Md5) → st ≡ starting → (f : Fed) → f ≡ fed st s → (d : Bytes) → d ≡ digest f.state → d ≡ md5 s
unfolding fed_all joined_all
one_part s short st es f ef d ed =
    let alone : joined_all (s ∷ []) ≡ s = append-nil s in
    let law : digest (fed starting s).state ≡ md5 (joined_all (s ∷ [])) = (cuts_agree (s ∷ [])).whole (rw alone short) in
    rw (ed, ef, es) (law ∙ ap md5 alone)

module _ (s : Bytes) (b : Block) (states : Bool) (es : states ≡ states_md5 b) where
  -- The block states no checksum.
  pub not_stated : states ≡ false → NotStated ≡ check_block md5 s b
  unfolding check_block
  not_stated h = rw (check_block, ← es, h)

  module _ (h : states ≡ true) (from to : ℕ) (ef : from ≡ b.at.0 + 6 + b.header_size) (et : to ≡ from + b.used) (d : Bytes)
      (ed : d ≡ md5 (take (to - from) (drop from s))) (same : Bool) (eq : same ≡ is_checksum d b) where
    digest_is : md5 (content_of b s) ≡ d
    digest_is =
        let size : b.used ≡ to - from = omega arith in
        let at : content_at b ≡ from = sym ef in
        sym (ed ∙ rw (size, at))

    -- It states the digest of its data, or another.
    pub data_agrees : same ≡ true → Agrees ≡ check_block md5 s b
    unfolding check_block
    data_agrees q = rw (check_block, ← es, h, digest_is, ← eq, q)

    pub data_differs : same ≡ false → Differs ≡ check_block md5 s b
    unfolding check_block
    data_differs q = rw (check_block, ← es, h, digest_is, ← eq, q)
