-- What a caller of `is_document` may rely on: the answer is yes exactly when the bytes are a document. Assumes nothing.
use mathlib.Core.Path.{◌≡◌, sym, ◌∙◌}
use mathlib.Core.Bool.{Bool, true}
use mathlib.Core.List.{List}
use Prim.Native.Nat.{ℕ}
use Rattle.spec.specs.Document.{Document, is_document}
use Rattle.spec.proofs.DocumentLaws.{document_sound, document_complete}

module _ (s : List ℕ) (r : Bool) (ensures : r ≡ is_document s) where
  pub yes_is_document : r ≡ true → Document s
  yes_is_document e = document_sound s (sym ensures ∙ e)

  pub document_is_yes : Document s → r ≡ true
  document_is_yes d = ensures ∙ document_complete s d

  -- any two answers are equal
  pub one_is_document : (q : Bool) → q ≡ is_document s → r ≡ q
  one_is_document q e = ensures ∙ sym e
