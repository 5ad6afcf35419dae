-- What stands in the first 40 bytes of a slot, and the bytes that a head is written as.
use Rattle.std.specs.Prelude.{ℕ, ◌==◌, if◌then◌else◌, List, [], ◌∷◌, ◌++◌, drop, slice_index}
use Rattle.byteorder.specs.Endian.{little_number, little_bytes}
use Rattle.batch_rules.specs.declared.verdicts.Rule.{Rule}
use Rattle.batch_rules.specs.declared.verdicts.Rule.TheVariants.{Plain, Reorder}
use Rattle.checkpoint.specs.declared.heads.Head.{Head}
use Rattle.checkpoint.specs.declared.heads.Fields.{Fields}

-- 'ARIA' as a number, the first byte the lowest
abbrev pub magic : ℕ
magic = little_number 4 (65 ∷ 82 ∷ 73 ∷ 65 ∷ [])

-- what the first 40 bytes say, whether it can be or not; the gate at offset 0 is looked at before
abbrev pub fields_of : List ℕ → Fields
fields_of bytes = record {
  magic = little_number 4 (drop 1 bytes);
  format = slice_index bytes 5;
  rule = slice_index bytes 6;
  fallback = slice_index bytes 7;
  generation = little_number 8 (drop 8 bytes);
  batches = little_number 8 (drop 16 bytes);
  requests = little_number 8 (drop 24 bytes);
  body = little_number 8 (drop 32 bytes);
}

abbrev pub rule_of : ℕ → Rule
rule_of byte = if byte == 0 then Plain else Reorder

abbrev pub rule_byte : Rule → ℕ
rule_byte Plain = 0
rule_byte Reorder = 1

-- the head that sound fields stand for
abbrev pub head_in : Fields → Head
head_in f = record {
  format = f.format;
  rule = rule_of f.rule;
  fallback = f.fallback;
  generation = f.generation;
  batches = f.batches;
  requests = f.requests;
}

-- the fields that a head is written as, before a body of so many bytes
abbrev pub fields_for : Head → ℕ → Fields
fields_for h body = record {
  magic = magic;
  format = h.format;
  rule = rule_byte h.rule;
  fallback = h.fallback;
  generation = h.generation;
  batches = h.batches;
  requests = h.requests;
  body = body;
}

-- the 39 bytes that they are behind a gate
abbrev pub head_bytes : Head → ℕ → List ℕ
head_bytes h body =
    little_bytes 4 magic ++ h.format ∷ rule_byte h.rule ∷ h.fallback ∷ little_bytes 8 h.generation
    ++ little_bytes 8 h.batches ++ little_bytes 8 h.requests ++ little_bytes 8 body
