-- Bytes that are a text, and bytes that are none.
use Rattle.std.proofs.Common.{◌≡◌, List, ℕ, inl, inr, None, refl}
use Rattle.std.proofs.lemmas.Bool.{cases_Bool}
use Rattle.std.proofs.lemmas.Str.{IsUtf8-from_is_utf8, is_utf8-from_IsUtf8}
use Rattle.std.specs.Str.{IsUtf8, is_utf8}
use Rattle.om_modelfile.specs.ModelOf.{document_of}
use Rattle.toml.specs.Parse.{parse_document}

pub of_text : (bytes : List ℕ) → IsUtf8 bytes → document_of bytes ≡ parse_document bytes
of_text bytes h = rw (is_utf8-from_IsUtf8 bytes h) refl

pub of_no_text : (bytes : List ℕ) → ¬ (IsUtf8 bytes) → document_of bytes ≡ None
of_no_text bytes h = elim (cases_Bool (is_utf8 bytes)) [
  | inl text ↦ absurd (h (IsUtf8-from_is_utf8 bytes text))
  | inr none ↦ rw none refl
]
