-- An edit is accepted exactly if the file can be edited to the text. Then the file is edited: of all that is reported,
-- only the tree is new.
use Rattle.std.specs.Prelude.{Some, None, Option}
use Rattle.std.proofs.Common.{◌≡◌, ℕ, ◌+◌, ◌-◌, ◌≤◌, leb, length, take, drop, refl, subst, append_assoc, arith, length-append, length-drop, take-append-drop, length-take-le, le-leb, leb-true}
use lib.ListN.{length-replicate}
use Rattle.format.specs.declared.refusal.Reason.TheVariants.{TextNotOneTree, TextLongerThanRoom}
use Rattle.format.specs.declared.layout.Tree.{Tree}
use Rattle.format.specs.Bytes.{Bytes}
use Rattle.format.specs.Outcome.{accepted}
use Rattle.format.specs.File.{most_bytes, File, file}
use Rattle.format.specs.Edit.{is_one_tree, filled, edit_tree, edit}
use Rattle.format.specs.Tree.{tree_at}
use Rattle.format.specs.Promise.{Editable, Edited}
use Rattle.format.proofs.OutcomeLaws.{Accepts, accepted_holds, accepts_bind, accepts_need}
use Rattle.format.proofs.FileLaws.{file_parts, parts_file}
use Rattle.format.proofs.EditTreeLaws.{FileRoom, file_room, treed, with_tree, treed_front, treed_text, treed_spaces, treed_rest, treed_parts}
use Rattle.format.proofs.EditWalkLaws.{records_again, outline_again}
use Rattle.format.proofs.FileBlockLaws.{file_from}

module _ (s t : Bytes) where
  -- If an edit is accepted, the file can be edited to the text.
  edit_tests : Accepts (λ u. Editable s t) (edit s t)
  unfolding edit edit_tree
  edit_tests = accepts_bind _ (file s) _ (λ f e. on_tree f e f.tree refl)
    where
      on_tree : (f : File) → file s ≡ accepted f → (x : Option Tree) → f.tree ≡ x → Accepts (λ u. Editable s t) (edit_tree s t x)
      on_tree f e None q = tt
      on_tree f e (Some x) q =
          accepts_need _ (is_one_tree t) TextNotOneTree 0 _
          λ one. accepts_need _ (leb (length t) (x.room_end.0 - x.start.0)) TextLongerThanRoom 0 _
          λ fits. record {
            before = f;
            read_before = e;
            start = x.start.0;
            end = x.end.0;
            room_end = x.room_end.0;
            tree_before = q;
            one_tree = one;
            fits = leb-true _ _ fits;
          }

  pub accepted_editable : (u : Bytes) → edit s t ≡ accepted u → Editable s t
  accepted_editable u = accepted_holds (λ u. Editable s t) (edit s t) u edit_tests

module _ (s t : Bytes) (h : Editable s t) where
  room : FileRoom s h.before h.start h.room_end
  room = file_room s h.before h.read_before h.start h.end h.room_end h.tree_before

  -- How many bytes are left in the room after the text.
  abbrev left : ℕ
  left = h.room_end - h.start - length t

  room_size : h.start + length t + left ≡ h.room_end
  room_size = omega (arith, h.fits, room.order)

  -- Exactly `h.start` bytes come before the room.
  front_size : length (take h.start s) ≡ h.start
  front_size = length-take-le h.start s (omega (arith, room.order, room.inside))

  -- The file with its room filled with the text and then spaces.
  abbrev refilled : Bytes
  refilled = treed (take h.start s) t left (drop h.room_end s)

  -- The filled file is as long as `s`.
  refilled_length : length refilled ≡ length s
  refilled_length = simp (length-append, length-replicate, length-drop) (omega (arith, front_size, room_size, room.inside))

  -- What is reported about the filled file.
  abbrev refound : File
  refound = with_tree h.before (tree_at h.start (h.start + length t) h.room_end) h.before.blocks h.before.verdict

  -- The filled file is accepted as `refound`.
  refilled_file : file refilled ≡ accepted refound
  refilled_file =
      let f = h.before in
      let n = h.start in
      let m = h.room_end in
      let parts = file_parts s f h.read_before in
      let short : length refilled ≤ most_bytes = rw refilled_length (leb-true _ _ parts.short) in
      let blocks = rw room.first at parts.chain_read in
      parts_file _ _
      (treed_parts n (take n s) (drop n s) f (rw take-append-drop parts) room.begin front_size t h.one_tree left (drop m s)
      room.full short m room_size f.blocks parts.tail blocks f.verdict parts.judged)

  -- The filled file is the file `s` edited to the text.
  refilled_edited : Edited s t refilled
  refilled_edited =
      let f = h.before in
      let n = h.start in
      let m = h.room_end in
      let rest : drop m refilled ≡ drop m s = rw room_size at (treed_rest n (take n s) t left (drop m s) front_size) in
      let after = rw room.first at (file_from s f h.read_before) in
      record {
        before = f;
        read_before = h.read_before;
        after = refound;
        read_after = refilled_file;
        same_length = refilled_length;
        start = n;
        end = h.end;
        room_end = m;
        tree_before = h.tree_before;
        tree_after = refl;
        is_text = treed_text n (take n s) t left (drop m s) front_size;
        spaces = rw room_size at (treed_spaces n (take n s) t left (drop m s) front_size);
        front = treed_front n (take n s) t left (drop m s) front_size;
        rest = rest;
        header = refl;
        comments = refl;
        blocks = refl;
        verdict = refl;
        records = records_again _ s _ f refilled_file h.read_before refl m after rest;
        outline = outline_again _ s _ f refilled_file h.read_before refl m after rest;
      }

  -- If the file can be edited to the text, the edit is accepted and fills the room.
  pub editable_accepted : edit s t ≡ accepted (filled s h.start h.room_end t)
  unfolding edit edit_tree
  editable_accepted = rw (h.read_before, h.tree_before, h.one_tree, le-leb (length t) (h.room_end - h.start) h.fits)

  -- The result of that edit is the file `s` edited to the text.
  pub editable_edited : Edited s t (filled s h.start h.room_end t)
  unfolding filled
  editable_edited = simp append_assoc refilled_edited

-- The file that an accepted edit leaves is the file `s` edited to the text.
pub accepted_edited : (s t u : Bytes) → edit s t ≡ accepted u → Edited s t u
accepted_edited s t u e =
    let h = accepted_editable s t u e in
    let same : filled s h.start h.room_end t ≡ u = cc (editable_accepted s t h) in
    subst (Edited s t) same (editable_edited s t h)
