-- The law about filling the room with a text and then with spaces.
use Rattle.std.proofs.Common.{◌≡◌, ◌+◌, ◌-◌, [], ◌++◌, length, take, drop, replicate, refl, ap, ◌∙◌, arith, append-nil, length-append, length-take, length-drop, drop_of_length-le}
use Rattle.std.proofs.Math.Seq.{take-length, take_at}
use borrow.Rule.Slice.PartMut.{put_mid, post_of}
use Rattle.format.specs.Bytes.{Bytes}

-- If the text is put, and then spaces in what is left of the room, the room holds the text and then only spaces.
pub fill_done : (room t mid z : Bytes) → mid ≡ take (length t) t ++ drop (length t) room
    → z ≡ replicate (length (take (length mid - length t) (drop (length t) mid))) 32
    → put_mid (length t) (length mid - length t) mid z ≡ t ++ replicate (length room - length t) 32
fill_done room t mid z e f =
    let a = length t in
    let k = length mid - a in
    let is : mid ≡ t ++ drop a room = rw take-length at e in
    let long : length mid ≡ a + (length room - a) = ap length is ∙ simp (length-append, length-drop) in
    let size : length (take k (drop a mid)) ≡ length room - a = simp (length-take, length-drop) (omega (arith, long)) in
    let front : take a mid ≡ t = ap (take a) is ∙ take_at t (drop a room) a refl in
    let rest : post_of a k mid ≡ [] = drop_of_length-le (drop a mid) {i = k} (simp length-drop (omega arith)) in
    let whole : put_mid a k mid z ≡ take a mid ++ (z ++ post_of a k mid) = refl in
    whole ∙ rw (front, rest, f, size, append-nil)
