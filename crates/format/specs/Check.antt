-- The data of a block and the checksum in its header. The digest is a parameter here: it is MD5, which the crate md5
-- defines.
use Rattle.std.specs.Prelude.{ℕ, Bool, true, false, ◌&&◌, ◌==◌, Option, None, Some}
use Rattle.format.specs.declared.answer.Check.{Check}
use Rattle.format.specs.declared.answer.Check.TheVariants.{NotStated, Agrees, Differs}
use Rattle.format.specs.declared.block.Block.{Block}
use Rattle.format.specs.declared.refusal.Reason.TheVariants.{NoSuchBlock}
use Rattle.format.specs.Bytes.{Bytes, number}
use Rattle.format.specs.Outcome.{Outcome, accepted, refused, refusal, ◌>>=◌}
use Rattle.format.specs.Block.{has_checksum}
use Rattle.format.specs.File.{block_at}
use Rattle.format.specs.Nest.{content_of}
use Rattle.format.specs.Fields.{check_number}

-- Whether a block states the MD5 of its data.
abbrev pub states_md5 : Block → Bool
states_md5 b = has_checksum b.checksum_high b.checksum_low

-- Whether the sixteen bytes `d` are the checksum of a block. It is reported in two halves.
abbrev pub is_checksum : Bytes → Block → Bool
is_checksum d b = number 0 8 d == b.checksum_high && number 8 8 d == b.checksum_low

-- What the data of the block `b` of the file `s` says about its checksum. The data is the content as it is stored.
unfoldable pub check_block : (Bytes → Bytes) → Bytes → Block → Check
check_block digest s b =
    elim (states_md5 b) [
      | true ↦ elim (is_checksum (digest (content_of b s)) b) [ true ↦ Agrees | false ↦ Differs ]
      | false ↦ NotStated
    ]

-- A block that was asked for by its ordinal. If there is none, this is refusal 25.
unfoldable pub named : Option Block → Outcome Block
named (Some b) = accepted b
named None = refused (refusal NoSuchBlock 0)

-- What the data of block `i` of the file `s` says about its checksum.
unfoldable pub checked : (Bytes → Bytes) → Bytes → ℕ → Outcome Check
checked digest s i = do
  found ← block_at s i
  b ← named found
  accepted (check_block digest s b)

-- The same as a number.
unfoldable pub checked_number : (Bytes → Bytes) → Bytes → ℕ → Outcome ℕ
checked_number digest s i = do
  c ← checked digest s i
  accepted (check_number c)
