-- A text that reads within the limits is not refused. A script that is read is printed as one text.
use Rattle.std.proofs.Common.{◌≡◌, ℕ, true≢false, List, Vec, is_some, Result, Ok, Err, refl, sym, ◌∙◌, ap, arith}
use Rattle.std.specs.declared.alloc.Global.{Global}
use Rattle.sh_tree.specs.Answers.{IsText, Parses}
use Rattle.sh_tree.specs.declared.limits.TheConstants.{MAX_NESTING}
use Rattle.sh_tree.specs.declared.refusal.Refusal.{Refusal}
use Rattle.sh_tree.specs.declared.refusal.Refusal.TheVariants.{TooLong, NulByte, Syntax, LeftOut, TooDeep, TooMany, Memory, Profile, CertSyntax, CertShape}
use Rattle.sh_tree.specs.declared.tree.Script.{Script}
use Rattle.sh_tree.specs.standard.language.Reading.{ReadsWithin}
use Rattle.sh_print.specs.Layout.{canon}
use Rattle.sh_accept.specs.Answers.{Prints}
use Rattle.sh_accept.specs.Written.{shown_text, shown_status}

-- a text that reads within the limits
module _ (b : List ℕ) (t : Script) (text : IsText b) (within : ReadsWithin b t) where
  pub refused : (e : Refusal) → Parses b (Err e) → e ≡ Memory
  refused TooLong h = absurd (let l = text.0 in omega arith)
  refused (NulByte at) h = absurd (true≢false (sym (ap is_some (sym text.1 ∙ h.1))))
  refused (Syntax f at) h = absurd (h.2 t (MAX_NESTING, within.0, within.1))
  refused (LeftOut f at) h = absurd (h.2 t (MAX_NESTING, within.0, within.1))
  refused (TooDeep at) h = absurd (h.2 t within)
  refused TooMany h = absurd (h.1 t within)
  refused Memory h = refl
  refused (Profile r at) h = absurd h
  refused (CertSyntax n) h = absurd h
  refused CertShape h = absurd h

module _ (b : List ℕ) (t : Script) (reading : Parses b (Ok t)) where
  tree_is : (u : Script) → Parses b (Ok u) → u ≡ t
  tree_is u p = reading.2 u (MAX_NESTING, p.1.0, p.1.1)

  pub prints : (x y : Result (Vec ℕ Global) Refusal) → Prints b x → Prints b y → (x ≡ Err Memory → ⊥) → (y ≡ Err Memory → ⊥)
      → (shown_text b x ≡ shown_text b y) × (shown_status x ≡ shown_status y)
  prints (Ok v) (Ok w) h k g l = (h.2 ∙ ap (canon b) (tree_is h.0 h.1 ∙ sym (tree_is k.0 k.1)) ∙ sym k.2, refl)
  prints (Ok v) (Err f) h k g l = absurd (l (ap Err (refused b t reading.0 reading.1 f k.refused)))
  prints (Err e) y h k g l = absurd (g (ap Err (refused b t reading.0 reading.1 e h.refused)))
