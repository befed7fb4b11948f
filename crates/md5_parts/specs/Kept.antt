-- The running state as bytes that a caller keeps between its parts.
use Rattle.std.specs.Prelude.{◌≡◌, ℕ, ◌+◌, ◌%◌, ◌^◌, ◌≤◌, List, [], ◌∷◌, ◌++◌, length, take, drop, nat_le}
use Rattle.format.specs.Bytes.{Bytes, number}
use Rattle.format.specs.Outcome.{Outcome, accepted, need, ◌>>=◌, ◌>>◌}
use Rattle.format.specs.File.{most_bytes}
use Rattle.format.specs.Fields.{number_bytes}
use Rattle.format.specs.Lent.{leaves}
use Rattle.format.specs.Promise.{Returned}
use Rattle.md5_parts.specs.declared.state.Md5.{Md5}
use Rattle.md5_parts.specs.Md5.{md5}
use Rattle.md5_parts.specs.State.{starting, taken, digest, joined_all, taken_of}
use Rattle.format.specs.declared.refusal.Reason.TheVariants.{BufferTooShort}

-- How many bytes a state takes.
abbrev pub state_bytes : ℕ
state_bytes = 104

-- The bytes of a state: its four words and its count, eight bytes each, and the block that it holds.
unfoldable pub encode_state : Md5 → Bytes
encode_state st = number_bytes (st.words.a ∷ st.words.b ∷ st.words.c ∷ st.words.d ∷ st.count ∷ []) ++ st.pending

-- The word in the eight bytes of `b` from offset `n`: their number, of which the lowest 32 bits count.
abbrev pub word_at : ℕ → Bytes → ℕ
word_at n b = number n 8 b % 2 ^ 32

-- The state that `b` begins with. Any bytes give one.
unfoldable pub decode_state : Bytes → Md5
decode_state b =
    record {
      words = record { a = word_at 0 b; b = word_at 8 b; c = word_at 16 b; d = word_at 24 b };
      pending = take 64 (drop 40 b);
      count = number 32 8 b;
    }

-- The same, unless the bytes are too short for a state.
unfoldable pub stored_state : Bytes → Outcome Md5
stored_state b = do
  need (nat_le state_bytes (length b)) BufferTooShort 0
  accepted (decode_state b)

-- The bytes of the next state, if the state in `b` takes the part `t`. Bytes that are too short for a state are refused
-- first.
unfoldable pub part_bytes : Bytes → Bytes → Outcome Bytes
part_bytes b t = do
  st ← stored_state b
  next ← taken st t
  accepted (encode_state next)

-- The digest that the state in `b` gives.
unfoldable pub digest_bytes : Bytes → Outcome Bytes
digest_bytes b = do
  st ← stored_state b
  accepted (digest st)

-- `r` is the answer if the part `t` is given to the state in `b`, and `after` is what these bytes are then.
pub record PartKept (b t after : Bytes) (r : Outcome (Unit {0})) : Type 0 where
  pub answer : r ≡ ◌>>◌ (part_bytes b t) (accepted tt)
  pub bytes : after ≡ leaves (part_bytes b t) b

-- The same for the returned number, which is 0 if the part is taken.
pub record PartExported (b t after : Bytes) (r : ℕ) : Type 0 where
  pub answer : Returned (◌>>◌ (part_bytes b t) (accepted 0)) (length b + length t) r
  pub bytes : after ≡ leaves (part_bytes b t) b

-- What the bytes `b` are after the starting state was written to them.
abbrev pub started_in : Bytes → Bytes
started_in b = leaves (accepted (encode_state starting)) b

-- What the bytes `b` are after these parts were given to the state in them, one after another.
unfoldable pub kept_all : Bytes → List Bytes → Bytes
kept_all b [] = b
kept_all b (p ∷ ps) = kept_all (leaves (part_bytes b p) b) ps

-- Each of these parts is taken by the state in `b`.
abbrev pub AllKept : Bytes → List Bytes → Type 0
AllKept b [] = Unit {0}
AllKept b (p ∷ ps) = (◌>>◌ (part_bytes b p) (accepted (tt {0})) ≡ accepted tt) × AllKept (leaves (part_bytes b p) b) ps

-- The law of the running digest over the bytes `b` of a caller.
pub record KeptCutsAgree (b : Bytes) (parts : List Bytes) : Type 0 where
  pub each : length (joined_all parts) ≤ most_bytes → AllKept (started_in b) parts
  pub whole : length (joined_all parts) ≤ most_bytes → digest_bytes (kept_all (started_in b) parts) ≡ accepted (md5 (joined_all parts))
  pub those_taken : digest_bytes (kept_all (started_in b) parts) ≡ accepted (md5 (joined_all (taken_of 0 parts)))
