-- Laws about what a block's content is: one for each return.
use Rattle.std.proofs.Common.{◌≡◌, ℕ, zero, suc, ◌+◌, ◌-◌, ◌<◌, ◌≤◌, Bool, true, false, not, List, [], drop, sym, refl, ap, ◌∙◌, arith, drop_of_length-le, le-leb}
use borrow.Author.Tests.{not-true, not-false, lt-leb}
use Rattle.format.specs.declared.block.Inner.{Inner}
use Rattle.format.specs.declared.block.Inner.TheVariants.{Plain, Opened, Refused, TooDeep}
use Rattle.format.specs.declared.layout.Layout.{Layout}
use Rattle.format.specs.Bytes.{Bytes, begins}
use Rattle.format.specs.Header.{token}
use Rattle.format.specs.Outcome.{Refusal, Outcome, accepted, refused}
use Rattle.format.specs.File.{file, offset_table, layout}
use Rattle.format.specs.Nest.{deepest, Inside, closed, opened, walk, walk_file, records_from}
use Rattle.file.specs.Layout.{Kept}
use Rattle.file.proofs.LayoutLaws.{file_refused, blocks_kept}
use Rattle.visit.specs.declared.content.Found.{Found}
use Rattle.visit.specs.Content.{closed_found, reads_for, reads, inside_of, records_left, file_records, content_table, ContentIs}

-- The records of a file at a depth are found by a walk that reads inner files for `levels` more levels.
from_file : (levels depth start : ℕ) (s : Bytes) → records_from levels depth start s ≡ walk_file (reads_for levels depth) depth start s
unfolding records_from reads_for
from_file zero depth start s = refl
from_file (suc levels) depth start s = refl

-- If a file is refused, its records are refused in the same way, at any depth.
pub refused_records : (levels depth start : ℕ) (s : Bytes) (r : Refusal) → file s ≡ refused r → records_from levels depth start s ≡ refused r
unfolding walk_file
refused_records levels depth start s r h = rw (from_file levels depth start s, walk_file, h)

-- If a file is accepted, its records are the records of all its blocks.
pub accepted_records : {s : Bytes} {offsets : List ℕ} {blocks : ℕ} → Kept s offsets blocks → (depth start : ℕ)
    → records_from (deepest - depth) depth start s ≡ accepted (file_records depth start s)
unfolding walk_file records_left
accepted_records {s} kept depth start = rw (from_file (deepest - depth) depth start s, walk_file, records_left, kept.is)

-- After the last block no record is left.
pub nothing_left : {s : Bytes} {offsets : List ℕ} {blocks : ℕ} → Kept s offsets blocks → (depth start k : ℕ) → blocks ≤ k
    → records_left depth start s k ≡ []
unfolding records_left walk
nothing_left kept depth start k h =
    rw (records_left, kept.is, drop_of_length-le kept.f.blocks {i = k} (omega (arith, kept.count)))

-- If at least one level is left, content that begins like a file is read one level deeper.
one_level : (depth start : ℕ) (t : Bytes) → depth < deepest → reads depth start t ≡ opened (records_from (deepest - (depth + 1)) (depth + 1) start t)
unfolding reads_for
one_level depth start t h = let e : deepest - depth ≡ suc (deepest - (depth + 1)) = omega arith in rw e

-- If content is closed with the inner state `inner`, it is found with that state and with no blocks to walk.
closed_is : (depth : ℕ) (compressed : Bool) (t : Bytes) (before after : List ℕ) (inner : Inner)
    → ((start : ℕ) → inside_of depth start compressed t ≡ closed inner) → after ≡ content_table depth compressed t before
    → (found : Found) → found ≡ closed_found inner → ContentIs depth compressed t before after found
closed_is depth compressed t before after inner h table found is = rw is (record {
  state = λ start. ap (λ (i : Inside). i.state) (h start);
  none = λ e start. ap (λ (i : Inside). i.records) (h start);
  some = λ e. absurd (e refl);
  table = table;
})

module _ (depth : ℕ) (compressed : Bool) (t : Bytes) (before : List ℕ) where
  -- The content of a compressed block is plain.
  pub content_compressed : compressed ≡ true → (found : Found) → found ≡ closed_found Plain → ContentIs depth compressed t before before found
  unfolding inside_of content_table
  content_compressed h = closed_is depth compressed t before before Plain (λ start. rw (inside_of, h)) (rw (content_table, h))

  module _ (plain : compressed ≡ false) (x : Bool) (is : x ≡ begins token (drop 0 t)) where
    -- Content that does not begin like a file is plain.
    pub content_plain : not x ≡ true → (found : Found) → found ≡ closed_found Plain → ContentIs depth compressed t before before found
    unfolding inside_of content_table
    content_plain h =
        let e = sym is ∙ not-true x h in
        closed_is depth compressed t before before Plain (λ start. rw (inside_of, plain, e)) (rw (content_table, plain, e))

    module _ (starts : not x ≡ false) where
      -- Content that begins like a file is read as a file.
      like_file : (start : ℕ) → inside_of depth start compressed t ≡ reads depth start t
      unfolding inside_of
      like_file start = let e = sym is ∙ not-false x starts in rw (inside_of, plain, e)

      -- If no level is left, the content is too deep.
      pub content_deep : deepest ≤ depth → (found : Found) → found ≡ closed_found TooDeep → ContentIs depth compressed t before before found
      unfolding reads_for content_table
      content_deep h =
          let e : deepest - depth ≡ 0 = omega arith in
          let starts-so = sym is ∙ not-false x starts in
          closed_is depth compressed t before before TooDeep (λ start. like_file start ∙ rw e)
          (rw (content_table, plain, starts-so, le-leb deepest depth h))

      module _ (high : depth < deepest) (a : Outcome Layout) (read : a ≡ layout t) (after : List ℕ) (kept-so : after ≡ offset_table before (file t)) where
        -- Content that is read as a file changes the table as that file does.
        table_read : after ≡ content_table depth compressed t before
        unfolding content_table
        table_read = let e = sym is ∙ not-false x starts in kept-so ∙ rw (content_table, plain, e, lt-leb deepest depth high)

        -- If the inner file is refused, the inner state is that refusal.
        pub content_refused : (r : Refusal) → a ≡ refused r → (found : Found) → found ≡ closed_found (Refused r)
            → ContentIs depth compressed t before after found
        unfolding opened
        content_refused r e =
            closed_is depth compressed t before after (Refused r)
            (λ start. like_file start ∙ one_level depth start t high
            ∙ rw (refused_records (deepest - (depth + 1)) (depth + 1) start t r (file_refused t a read r e)))
            table_read

        -- If the inner file is accepted, the content is opened.
        pub content_opened : (l : Layout) → a ≡ accepted l
            → ContentIs depth compressed t before after (record { inner = Opened; blocks = l.blocks })
        unfolding opened records_left
        content_opened l e = record {
          state = λ start. ap (λ (i : Inside). i.state) (is_opened start);
          none = λ z start. ap (λ (i : Inside). i.records) (is_opened start) ∙ no_records z start;
          some = λ z. record { higher = omega arith; kept = kept; records = λ start. ap (λ (i : Inside). i.records) (is_opened start) };
          table = table_read;
        }
          where
            kept : Kept t after l.blocks
            kept = blocks_kept t a read before after kept-so l e

            is_opened : (start : ℕ) → inside_of depth start compressed t ≡ record { state = Opened; records = file_records (depth + 1) start t }
            is_opened start = like_file start ∙ one_level depth start t high ∙ rw (accepted_records kept (depth + 1) start)

            no_records : l.blocks ≡ 0 → (start : ℕ) → file_records (depth + 1) start t ≡ []
            no_records z start = nothing_left kept (depth + 1) start 0 (omega arith)
