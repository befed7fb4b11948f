-- Laws about where something is put for a record, what is put, and what several records leave.
use Rattle.std.proofs.Common.{◌≡◌, ℕ, suc, ◌*◌, ◌/◌, ◌≤◌, Bool, true, false, leb, List, [], ◌∷◌, ◌++◌, length, refl, ap, ◌∙◌, mul-zero, arith, eq-eqb, ne_eqb}
use Rattle.std.specs.Prelude.{Option, None, Some}
use Rattle.format.specs.declared.block.Block.{Block}
use Rattle.format.specs.declared.block.Inner.{Inner}
use Rattle.format.specs.declared.block.Inner.TheVariants.{Plain, Opened, Refused, TooDeep}
use Rattle.format.specs.declared.block.Record.{Record}
use Rattle.format.specs.declared.row.Row.{Row}
use Rattle.format.specs.Bytes.{Bytes, wrapped}
use Rattle.format.specs.Block.{least_block, block_with}
use Rattle.format.specs.Fields.{number_bytes, refusal_fields, block_fields, record_fields, record_bytes, encode_record}
use Rattle.format.specs.Lent.{placed}
use Rattle.format.specs.Outline.{inner_kind, row_of, row_bytes, encode_row}
use Rattle.format.proofs.RowLaws.{encoded_length}
use Rattle.put.proofs.NumberLaws.{numbers_length}
use Rattle.put.proofs.PutLaws.{placed_none, placed_nothing, placed_length}
use Rattle.blocks.specs.declared.again.Summary.{Summary}
use Rattle.blocks.specs.Again.{block_again, summary_again}
use Rattle.visit.specs.declared.sink.Form.{Form}
use Rattle.visit.specs.declared.sink.Form.TheVariants.{Rows, Table, One}
use Rattle.format.specs.declared.block.InnerKind.{InnerKind}
use Rattle.visit.specs.declared.sink.Reached.{Reached}
use Rattle.visit.specs.declared.sink.Place.{Place}
use Rattle.visit.specs.declared.sink.Place.TheVariants as Place·is
use Rattle.visit.specs.Sink.{reached_record, width, delivery, number_after, put_all, Delivered, PlaceIs}

-- A record has fifteen numbers, so it takes `record_bytes` bytes.
pub record_length : (r : Record) → length (encode_record r) ≡ record_bytes
unfolding encode_record record_fields
record_length r = rw (numbers_length (record_fields r)) (fields r.inner)
  where
    fields : (i : Inner) → 8 * suc (suc (suc (length (refusal_fields i ++ block_fields r.block)))) ≡ record_bytes
    fields Plain = refl
    fields Opened = refl
    fields (Refused x) = refl
    fields TooDeep = refl

module _ (form : Form) (n room : ℕ) where
  -- If the form is `Rows` and the buffer has no place for the row, nothing is put. Otherwise the row is put (the next
  -- law).
  pub no_row : form ≡ Rows → room / row_bytes ≤ n → PlaceIs form n room None
  no_row h g out r size = rw h (placed_none out (n * row_bytes) (encode_row (row_of r)) (omega (arith, encoded_length (row_of r))))

  pub row_place : form ≡ Rows → PlaceIs form n room (Some (Place·is.Row (n * row_bytes)))
  row_place h out r = rw h

  -- If the form is `Table` and the buffer has no place for the numbers, nothing is put. Otherwise they are put (the
  -- next law).
  pub no_numbers : form ≡ Table → room / record_bytes ≤ n → PlaceIs form n room None
  no_numbers h g out r size = rw h (placed_none out (n * record_bytes) (encode_record r) (omega (arith, record_length r)))

  pub numbers_place : form ≡ Table → PlaceIs form n room (Some (Place·is.Numbers (n * record_bytes)))
  numbers_place h out r = rw h

  module _ (w : ℕ) (one : form ≡ One w) where
    -- If another record is wanted, nothing is put. If this record is wanted, its numbers are put at the start (the next
    -- law).
    pub other_wanted : (w ≡ n → ⊥) → PlaceIs form n room None
    other_wanted h out r size = rw (one, mul-zero n, delivery, ne_eqb w n h) (placed_nothing out 0 (omega arith))

    pub this_wanted : w ≡ n → PlaceIs form n room (Some (Place·is.Numbers 0))
    this_wanted h out r = rw (one, mul-zero n, delivery, eq-eqb w n h)

module _ (form : Form) (n room : ℕ) (place : Option Place) (is : PlaceIs form n room place) where
  -- If the place is `Nowhere`, the buffer is right without a change.
  pub put_nowhere : place ≡ None → (out : Bytes) (r : Record) → length out ≡ room → out ≡ placed out (n * width form) (delivery form n r)
  put_nowhere h = rw h at is

  module _ (p : ℕ) (out after : Bytes) (r : Record) where
    -- If the place is `Row`, the buffer is right after the row is put there.
    pub put_row : place ≡ Some (Place·is.Row p) → (row : Row) → row ≡ row_of r → after ≡ placed out p (encode_row row)
        → after ≡ placed out (n * width form) (delivery form n r)
    put_row h row e f = f ∙ ap (λ (x : Row). placed out p (encode_row x)) e ∙ (rw h at is) out r

    -- If the place is `Numbers`, the buffer is right after the numbers are put there.
    pub put_numbers : place ≡ Some (Place·is.Numbers p) → after ≡ placed out p (encode_record r) → after ≡ placed out (n * width form) (delivery form n r)
    put_numbers h f = f ∙ (rw h at is) out r

module _ (b : Reached) (inner : Inner) where
  -- The row that is made of a summary and the kind of an inner state.
  abbrev row_with : Summary → InnerKind → Row
  row_with s kind =
      record {
        depth = b.depth;
        streamed = s.streamed;
        compressed = s.compressed;
        checksum = s.checksum;
        inner = kind;
        ordinal = b.ordinal;
        header_size = s.header_size;
        at = b.here;
        allocated = s.allocated;
        used = s.used;
      }

  -- The row of a block that is read again is made of its summary.
  pub row_made : (s : Summary) → s ≡ summary_again b.bytes.now → (kind : InnerKind) → kind ≡ inner_kind inner
      → row_with s kind ≡ row_of (reached_record b inner)
  unfolding row_of block_again block_with summary_again
  row_made s e kind f = rw (e, f) (go (leb least_block (length b.bytes.now)) refl)
    where
      go : (y : Bool) → leb least_block (length b.bytes.now) ≡ y → row_with (summary_again b.bytes.now) (inner_kind inner) ≡ row_of (reached_record b inner)
      go true k = rw (summary_again, block_again, k)
      go false k = rw (summary_again, block_again, k)

  -- Putting the numbers of a block that is read again puts its record.
  pub record_put : (x : Block) → x ≡ block_again b.ordinal b.at b.bytes.now → (numbers : List ℕ)
      → numbers ≡ record_fields (record { depth = b.depth; at = b.here; block = x; inner = inner }) → (out after : Bytes) (p : ℕ)
      → after ≡ placed out p (number_bytes numbers) → after ≡ placed out p (encode_record (reached_record b inner))
  unfolding encode_record
  record_put x e numbers f out after p g = rw (encode_record, ← e, ← f) g

-- If what is wanted of one record is put, that record is delivered.
pub delivered_one : (form : Form) (n : ℕ) (r : Record) (out after : Bytes) → after ≡ placed out (n * width form) (delivery form n r)
    → (x : ℕ) → x ≡ wrapped n 1 → Delivered form n out (r ∷ []) after x
unfolding number_after put_all
delivered_one form n r out after p x e = record { next = e; buffer = p }

-- If no record comes, nothing changes.
pub delivered_none : (form : Form) (n : ℕ) (out : Bytes) → Delivered form n out [] out n
unfolding number_after put_all
delivered_none form n out = record { next = refl; buffer = refl }

-- Records followed by other records lead to the same number as all of them together, and to the same buffer (the next
-- law).
after_append : (n : ℕ) (rs qs : List Record) → number_after (number_after n rs) qs ≡ number_after n (rs ++ qs)
unfolding number_after
after_append n [] qs = refl
after_append n (r ∷ rs) qs = after_append (wrapped n 1) rs qs

put_append : (form : Form) (n : ℕ) (out : Bytes) (rs qs : List Record)
    → put_all form (number_after n rs) (put_all form n out rs) qs ≡ put_all form n out (rs ++ qs)
unfolding number_after put_all
put_append form n out [] qs = refl
put_append form n out (r ∷ rs) qs = put_append form (wrapped n 1) (placed out (n * width form) (delivery form n r)) rs qs

-- If records are delivered and then others, all of them are delivered.
pub delivered_append : {form : Form} {n m x : ℕ} {out between after : Bytes} {rs qs : List Record} → Delivered form n out rs between m
    → Delivered form m between qs after x → Delivered form n out (rs ++ qs) after x
delivered_append {form} {n} {m} {x} {out} {between} {after} {rs} {qs} h g =
    record {
      next = g.next ∙ rw h.next (after_append n rs qs);
      buffer = g.buffer ∙ rw (h.next, h.buffer) (put_append form n out rs qs);
    }

-- A buffer keeps its length.
put_length : (form : Form) (n : ℕ) (out : Bytes) (rs : List Record) → length (put_all form n out rs) ≡ length out
unfolding put_all
put_length form n out [] = refl
put_length form n out (r ∷ rs) = put_length form (wrapped n 1) _ rs ∙ placed_length out (n * width form) (delivery form n r)

pub delivered_length : {form : Form} {n x : ℕ} {out after : Bytes} {rs : List Record} → Delivered form n out rs after x → length after ≡ length out
delivered_length {form} {n} {x} {out} {after} {rs} h = ap length h.buffer ∙ put_length form n out rs
