-- A block: its header and its content. All numbers in it are big-endian. The offsets of its fields count from the
-- block's first byte.
use Rattle.std.specs.Prelude.{◌≡◌, ℕ, ◌+◌, ◌-◌, ◌%◌, ◌≤◌, Bool, true, false, not, ◌||◌, length, ◌==◌, nat_le}
use Rattle.format.specs.declared.block.Block.{Block}
use Rattle.format.specs.declared.refusal.Reason.TheVariants.{HeaderPassesEnd, HeaderTooSmall, UsedAboveAllocated, DataSizeDiffers, AllocatedPassesEnd}
use Rattle.format.specs.Bytes.{Bytes, number}
use Rattle.format.specs.Outcome.{Outcome, accepted, need, ◌>>◌}

-- The header size. For this field and the seven fields below, `t` is the rest of the file from the block's first byte.
abbrev pub header_size : Bytes → ℕ
header_size t = number 4 2 t

-- The 32 flag bits.
abbrev pub flags : Bytes → ℕ
flags t = number 6 4 t

-- The compression name: four bytes as one number.
abbrev pub compression : Bytes → ℕ
compression t = number 10 4 t

-- The allocated size, as it is stored.
abbrev pub allocated_size : Bytes → ℕ
allocated_size t = number 14 8 t

-- The used size, as it is stored.
abbrev pub used_size : Bytes → ℕ
used_size t = number 22 8 t

-- The data size, as it is stored.
abbrev pub data_size : Bytes → ℕ
data_size t = number 30 8 t

-- The first eight of the checksum's sixteen bytes.
abbrev pub checksum_high : Bytes → ℕ
checksum_high t = number 38 8 t

-- The last eight of the checksum's sixteen bytes.
abbrev pub checksum_low : Bytes → ℕ
checksum_low t = number 46 8 t

-- The smallest header size.
abbrev pub least_header : ℕ
least_header = 48

-- The smallest number of bytes in a block: its mark, its header size and the smallest header.
abbrev pub least_block : ℕ
least_block = 6 + least_header

-- Whether a block with the flags `f` is streamed: bit 0 is set.
abbrev pub is_streamed : ℕ → Bool
is_streamed f = f % 2 == 1

-- Whether a block with this compression name is compressed. Four zero bytes mean that it is not.
abbrev pub is_compressed : ℕ → Bool
is_compressed name = not (name == 0)

-- Whether these two halves of a checksum state one. Zeros in both mean that there is none.
abbrev pub has_checksum : ℕ → ℕ → Bool
has_checksum high low = not (high == 0) || not (low == 0)

-- Where the content begins in `t`.
abbrev pub content_start : Bytes → ℕ
content_start t = 6 + header_size t

-- How many bytes are left in the file from there.
abbrev pub bytes_left : Bytes → ℕ
bytes_left t = length t - content_start t

-- Block `i` of a file, at offset `n`, with these three sizes. The other fields come from the header with which `t`
-- begins.
unfoldable pub block_with : ℕ → ℕ → Bytes → ℕ → ℕ → ℕ → Block
block_with i n t allocated used size =
    record {
      ordinal = i;
      at = record { 0 = n };
      header_size = header_size t;
      flags = flags t;
      compression = compression t;
      allocated = allocated;
      used = used;
      data_size = size;
      checksum_high = checksum_high t;
      checksum_low = checksum_low t;
    }

-- Block `i` of a file, at offset `n`; `t` is the rest of the file from there. The chain has already found the mark, so
-- its four bytes are not checked again: with any other four bytes the outcome would be the same.
unfoldable pub block : ℕ → ℕ → Bytes → Outcome Block
block i n t = do
  need (nat_le 6 (length t)) HeaderPassesEnd n
  need (nat_le least_header (header_size t)) HeaderTooSmall n
  need (nat_le (content_start t) (length t)) HeaderPassesEnd n
  elim (is_streamed (flags t)) [
    | true ↦ accepted (block_with i n t (bytes_left t) (bytes_left t) (bytes_left t))
    | false ↦ do
      need (nat_le (used_size t) (allocated_size t)) UsedAboveAllocated n
      need (is_compressed (compression t) || data_size t == used_size t) DataSizeDiffers n
      need (nat_le (allocated_size t) (bytes_left t)) AllocatedPassesEnd n
      accepted (block_with i n t (allocated_size t) (used_size t) (data_size t))
  ]

-- Block `i` of a file, at offset `n`, if nothing is wrong with it; `t` is the rest of the file from there.
unfoldable pub sound_block : ℕ → ℕ → Bytes → Block
sound_block i n t =
    elim (is_streamed (flags t)) [
      | true ↦ block_with i n t (bytes_left t) (bytes_left t) (bytes_left t)
      | false ↦ block_with i n t (allocated_size t) (used_size t) (data_size t)
    ]

-- Nothing is wrong with the three sizes in the header with which `t` begins.
pub record SoundSizes (t : Bytes) : Type 0 where
  pub used : used_size t ≤ allocated_size t
  pub data_size : (is_compressed (compression t) || data_size t == used_size t) ≡ true
  pub allocated : allocated_size t ≤ bytes_left t

-- `t` begins with a block that nothing is wrong with. The sizes of a streamed block are not checked.
pub record Sound (t : Bytes) : Type 0 where
  pub least : least_header ≤ header_size t
  pub whole : content_start t ≤ length t
  pub sizes : is_streamed (flags t) ≡ false → SoundSizes t
