-- What is read of a header without judging it. If the header was accepted, this is what was accepted.
use Rattle.std.specs.Prelude.{ℕ, ◌+◌, Bool, true, false, ◌&&◌, length, leb}
use Rattle.format.specs.declared.block.Block.{Block}
use Rattle.format.specs.Bytes.{Bytes}
use Rattle.format.specs.Block.{header_size, flags, compression, allocated_size, used_size, data_size, checksum_high, checksum_low, least_block, is_streamed, is_compressed, has_checksum, content_start, bytes_left, block_with}
use Rattle.blocks.specs.declared.again.Summary.{Summary}
use Rattle.blocks.specs.declared.again.Content.{Content}

-- A size as it is reported. For a streamed block every size is the length of its content.
unfoldable pub reported : Bytes → ℕ → ℕ
reported t size = elim (is_streamed (flags t)) [ true ↦ bytes_left t | false ↦ size ]

-- Block `i` at offset `n`, with zeros for the numbers in its header.
abbrev pub blank_block : ℕ → ℕ → Block
blank_block i n =
    record {
      ordinal = i;
      at = record { 0 = n };
      header_size = 0;
      flags = 0;
      compression = 0;
      allocated = 0;
      used = 0;
      data_size = 0;
      checksum_high = 0;
      checksum_low = 0;
    }

-- Block `i` at offset `n`, read again from `t`, which begins with it.
unfoldable pub block_again : ℕ → ℕ → Bytes → Block
block_again i n t =
    elim (leb least_block (length t)) [
      | true ↦ block_with i n t (reported t (allocated_size t)) (reported t (used_size t)) (reported t (data_size t))
      | false ↦ blank_block i n
    ]

-- What a row shows of bytes that are too short for a header.
abbrev pub blank_summary : Summary
blank_summary = record { header_size = 0; streamed = false; compressed = false; checksum = false; allocated = 0; used = 0 }

-- What a row shows of the block that `t` begins with.
unfoldable pub summary_again : Bytes → Summary
summary_again t =
    elim (leb least_block (length t)) [
      | true ↦ record {
        header_size = header_size t;
        streamed = is_streamed (flags t);
        compressed = is_compressed (compression t);
        checksum = has_checksum (checksum_high t) (checksum_low t);
        allocated = reported t (allocated_size t);
        used = reported t (used_size t);
      }
      | false ↦ blank_summary
    ]

-- Whether the block that `t` begins with is streamed.
unfoldable pub streamed_again : Bytes → Bool
streamed_again t = leb least_block (length t) && is_streamed (flags t)

-- Whether the content of the block that `t` begins with is inside `t`.
abbrev pub has_content : Bytes → Bool
has_content t = leb least_block (length t) && leb (content_start t) (length t) && leb (reported t (used_size t)) (bytes_left t)

-- The answer for content that is not inside the bytes: an empty range that counts as compressed.
abbrev pub no_content : Content
no_content = record { from = 0; to = 0; compressed = true }

-- Where in `t` the content of the block that `t` begins with is, and whether it is compressed.
unfoldable pub content_again : Bytes → Content
content_again t =
    elim (has_content t) [
      | true ↦ record {
        from = content_start t;
        to = content_start t + reported t (used_size t);
        compressed = is_compressed (compression t);
      }
      | false ↦ no_content
    ]
