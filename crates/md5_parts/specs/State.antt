-- The running state of a digest whose bytes come in parts. Everything here is defined for every state, also for one
-- that no part has led to.
use Rattle.std.specs.Prelude.{◌≡◌, ℕ, ◌+◌, ◌-◌, ◌%◌, ◌≤◌, Bool, true, false, List, [], ◌∷◌, ◌++◌, length, take, replicate, nat_le}
use Rattle.format.specs.Bytes.{Bytes}
use Rattle.format.specs.Outcome.{Outcome, accepted, refused, need, ◌>>◌}
use Rattle.format.specs.File.{most_bytes}
use Rattle.md5_parts.specs.declared.state.Md5.{Md5}
use Rattle.md5_parts.specs.declared.state.Fed.{Fed}
use Rattle.format.specs.declared.refusal.Reason.TheVariants.{FileTooLong}
use Rattle.md5_parts.specs.Md5.{start, hashed, left, padding, digest_of, md5}

-- `t` with zeros after it, up to the length of a block.
abbrev pub in_block : Bytes → Bytes
in_block t = t ++ replicate (64 - length t) 0

-- The bytes that a state holds: those after the last whole block.
abbrev pub held : Md5 → Bytes
held st = take (st.count % 64) st.pending

-- The state before any byte.
abbrev pub starting : Md5
starting = record { words = start; pending = in_block []; count = 0 }

-- The state with the part `t` added to it.
unfoldable pub next : Md5 → Bytes → Md5
next st t = record { words = hashed st.words (held st ++ t); pending = in_block (left (held st ++ t)); count = st.count + length t }

-- Whether the part `t` may be added: there are not too many bytes in all.
abbrev pub fits : Md5 → Bytes → Bool
fits st t = nat_le (st.count + length t) most_bytes

-- What comes of the part `t`: the next state, or a refusal.
unfoldable pub taken : Md5 → Bytes → Outcome Md5
taken st t = do
  need (fits st t) FileTooLong 0
  accepted (next st t)

-- The state that comes back, and the answer beside it. After a refusal it is the state before the part.
abbrev pub fed_by : Md5 → Outcome Md5 → Fed
fed_by st (accepted n) = record { state = n; answer = accepted tt }
fed_by st (refused r) = record { state = st; answer = refused r }

-- The same for the part `t`.
unfoldable pub fed : Md5 → Bytes → Fed
fed st t = fed_by st (taken st t)

-- The digest that a state gives.
unfoldable pub digest : Md5 → Bytes
digest st = digest_of (hashed st.words (held st ++ padding st.count))

-- The state after these parts, one after another.
unfoldable pub fed_all : Md5 → List Bytes → Md5
fed_all st [] = st
fed_all st (p ∷ ps) = fed_all (fed st p).state ps

-- Each of these parts is taken.
abbrev pub AllTaken : Md5 → List Bytes → Type 0
AllTaken st [] = Unit {0}
AllTaken st (p ∷ ps) = ((fed st p).answer ≡ accepted tt) × AllTaken (fed st p).state ps

-- All bytes of these parts.
unfoldable pub joined_all : List Bytes → Bytes
joined_all [] = []
joined_all (p ∷ ps) = p ++ joined_all ps

-- The parts that are taken if `n` bytes were taken before them.
unfoldable pub taken_of : ℕ → List Bytes → List Bytes
taken_of n [] = []
taken_of n (p ∷ ps) = elim (nat_le (n + length p) most_bytes) [ true ↦ p ∷ taken_of (n + length p) ps | false ↦ taken_of n ps ]

-- The law of the running digest, for a message that comes in these parts.
pub record CutsAgree (parts : List Bytes) : Type 0 where
  -- If the message is not too long, each part is taken, and the digest is that of the whole message.
  pub each : length (joined_all parts) ≤ most_bytes → AllTaken starting parts
  pub whole : length (joined_all parts) ≤ most_bytes → digest (fed_all starting parts) ≡ md5 (joined_all parts)
  -- In any case, the digest is that of the parts that were taken.
  pub those_taken : digest (fed_all starting parts) ≡ md5 (joined_all (taken_of 0 parts))
