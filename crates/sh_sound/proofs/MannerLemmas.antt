-- How a simple command goes on by its words and by its fields, and what its rules then are.
use Rattle.std.proofs.Common.{◌≡◌, ℕ, Bool, true, false, not, ◌&&◌, if◌then◌else◌, Some, List, [], ◌∷◌, append-nil, refl, ap, subst, ◌∙◌}
use Rattle.std.proofs.lemmas.Bool.{and_parts, false≢true}
use Rattle.std.proofs.Math.Bool.{and-false}
use Rattle.sh_tree.specs.standard.program.Syntax as p
use Rattle.sh_tree.specs.standard.program.Syntax.{Text}
use Rattle.sh_tree.specs.standard.program.Words.{operands_in, redirects_in, static_of, words_in}
use Rattle.sh_runs.specs.standard.Kinds.{kind_of, is_declaration}
use Rattle.sh_runs.specs.declared.kind.Kind.TheVariants as kind
use Rattle.sh_runs.specs.standard.runs.Environment.{Environment, Frame, is_one_of}
use Rattle.sh_domain.specs.Entries.{Around}
use Rattle.sh_domain.specs.Facts.{Facts, NotReached, Known}
use Rattle.sh_domain.specs.Inclusions as i
use Rattle.sh_domain.specs.Inclusions.{Covers, MayDrop, behind, KindRules, SimpleRules}
use Rattle.sh_domain.specs.Operands.{Names}
use Rattle.sh_domain.specs.Rules.{losses_by}
use Rattle.sh_domain.specs.Table.{Manner, Nameless, Utility, Call, is_special, manner_of_name, manner_of_words, manner, is_redirected, assignments_gains, after_utility, after_nameless}
use Rattle.sh_domain.specs.Views.{Certificate, AfterNonzero, Lose, Seen, if_nonzero, at, gaining, stepped, where_known, step, lost}
use Rattle.sh_sound.specs.Fields.{Fields, Begun, FieldsFit}
use Rattle.sh_sound.specs.Holding.{Holds, OneHolds, Entails}
use Rattle.sh_sound.specs.Going.{WordAt}
use Rattle.sh_sound.specs.Doing.{RulesAt}
use Rattle.sh_sound.proofs.HoldLemmas.{one_stepped, covers_at}
use Rattle.sh_sound.proofs.DropLemmas.{Spares}

-- a command with a name, whose operands are all expanded
pub record BehindName (m : ℕ) (es : p.Elements) (name : Text) (operands : List Text) : Type 0 where
  pub word : p.Word
  pub others : List p.Word
  pub words : words_in (operands_in es) ≡ word ∷ others
  pub static : static_of word ≡ Some name
  pub given : Fields (is_declaration (kind_of name)) m others operands

pub behind_name : (m : ℕ) (es : p.Elements) (name : Text) (operands : List Text) → Begun m es [] name operands → BehindName m es name operands
behind_name m es name operands b = record { word = b.word; others = b.done; words = b.words ∙ ap (λ ws. b.word ∷ ws) (append-nil b.done); static = b.static; given = b.given }

module _ (defined : List Text) where
  pub nameless_manner : (m : ℕ) (es : p.Elements) → FieldsFit m es [] [] → manner defined es ≡ Nameless
  unfolding FieldsFit manner_of_words
  nameless_manner m es h = ap (manner_of_words defined) h

  named_manner : (m : ℕ) (es : p.Elements) (name : Text) (operands : List Text) (b : BehindName m es name operands) → manner defined es ≡ manner_of_name defined (Some name) b.others
  unfolding manner_of_words
  named_manner m es name operands b = ap (manner_of_words defined) b.words ∙ ap (λ s. manner_of_name defined s b.others) b.static

  -- no function of the script has the name
  pub utility_manner : (m : ℕ) (es : p.Elements) (name : Text) (operands : List Text) (b : BehindName m es name operands) → is_one_of defined name ≡ false
      → manner defined es ≡ Utility (kind_of name) b.others
  unfolding manner_of_name
  utility_manner m es name operands b h = named_manner m es name operands b ∙ rw h refl

  pub special_manner : (m : ℕ) (es : p.Elements) (name : Text) (operands : List Text) (b : BehindName m es name operands) → is_special (kind_of name) ≡ true
      → manner defined es ≡ Utility (kind_of name) b.others
  unfolding manner_of_name
  special_manner m es name operands b h = named_manner m es name operands b ∙ rw (h, and-false (is_one_of defined name)) refl

  pub call_manner : (m : ℕ) (es : p.Elements) (name : Text) (operands : List Text) (b : BehindName m es name operands) → is_one_of defined name ≡ true → is_special (kind_of name) ≡ false
      → manner defined es ≡ Call name b.others
  unfolding manner_of_name
  call_manner m es name operands b h k = named_manner m es name operands b ∙ rw (h, k) refl

-- anything but a special built-in utility
unfoldable pub is_ordinary : Manner → Bool
is_ordinary (Utility k ws) = not (is_special k)
is_ordinary _ = true

module _ (d : Facts) (c : Certificate) where
  -- after names that may be gone less is known
  pub lose_holds : (names : Names) (s : Seen) (e e' : Environment) (f : Frame) → Spares names e e' → OneHolds d c s e f → OneHolds d c (stepped (Lose names) s) e' f
  unfolding Holds step where_known
  lose_holds names s e e' f k h = one_stepped d c (Lose names) s e e' f f go h
    where
      apart : (claimed : Bool) (among : Bool) → (claimed && not among) ≡ true → among ≡ false
      apart claimed false h = refl
      apart true true h = absurd (false≢true h)
      apart false true h = absurd (false≢true h)

      go : (y : Facts) → Holds y e f → Holds (step c (Lose names) y) e' f
      go NotReached h = h
      go (Known v g n) h = record {
        variables = λ t i s. k.variables t i (apart (v t) (is_one_of names.vars t) s) (h.variables t i (and_parts (v t) (not (is_one_of names.vars t)) s).0);
        job = λ s. k.job (h.job (and_parts (v _) (not (is_one_of names.vars _)) s).0);
        functions = λ t i s. k.functions t i (apart (g t) (is_one_of names.functions t) s) (h.functions t i (and_parts (g t) (not (is_one_of names.functions t)) s).0);
        parameters = h.parameters;
      }

  spares_same : (names : Names) (e : Environment) → Spares names e e
  spares_same names e = record { variables = λ t i n h. h; functions = λ t i n h. h; job = λ h. h }

  pub lose_entails : (names : Names) (s : Seen) → Entails d c s (stepped (Lose names) s)
  lose_entails names s e f h = lose_holds names s e e f (spares_same names e) h

  -- if a redirection fails, what is known after the words is known after the command
  pub fails_nonzero : (x : Around) (n : ℕ) (es : p.Elements) (m : Manner) → SimpleRules d c x n es m → is_ordinary m ≡ true → is_redirected (redirects_in es) ≡ true
      → Entails d c (behind d c n es) (at (AfterNonzero n))
  unfolding SimpleRules is_ordinary is_special after_nameless after_utility if_nonzero
  fails_nonzero x n es Nameless rules o r = covers_at d c (AfterNonzero n) (behind d c n es)
      (subst (λ b. Covers d c (AfterNonzero n) (if b then behind d c n es else gaining (assignments_gains es) (behind d c n es))) r rules.nonzero)
  fails_nonzero x n es (Call f ws) rules o r = covers_at d c (AfterNonzero n) (behind d c n es) (rules.redirected r)
  fails_nonzero x n es (Utility (kind.Special k) ws) rules o r = absurd (false≢true o)
  fails_nonzero x n es (Utility kind.True ws) rules o r = covers_at d c (AfterNonzero n) (behind d c n es)
      (subst (λ b. Covers d c (AfterNonzero n) (if b then behind d c n es else [])) r rules.leaves.nonzero)
  fails_nonzero x n es (Utility kind.Getopts ws) rules o r = λ e f h. covers_at d c (AfterNonzero n) _ rules.leaves.nonzero e f (lose_entails _ (behind d c n es) e f h)
  fails_nonzero x n es (Utility k ws) rules o r = covers_at d c (AfterNonzero n) (behind d c n es) rules.leaves.nonzero

  module _ (defined : List Text) where
    -- the rules by how the command goes on
    pub rules_by : (x : Around) (n : ℕ) (es : p.Elements) (m : Manner) → RulesAt d c defined x n es → manner defined es ≡ m → SimpleRules d c x n es m
    unfolding KindRules
    rules_by x n es m r h = subst (SimpleRules d c x n es) h r.rules.kind

    pub losses_at : (x : Around) (n : ℕ) (es : p.Elements) (m : Manner) → RulesAt d c defined x n es → manner defined es ≡ m
        → i.Each (λ l. MayDrop d c x (lost d c n l)) (losses_by defined es (behind d c n es) m)
    losses_at x n es m r h = subst (λ m. i.Each (λ l. MayDrop d c x (lost d c n l)) (losses_by defined es (behind d c n es) m)) h r.rules.losses

    -- a word that may be expanded where less is known may be where more is
    pub word_from : (s b : Seen) (w : p.Word) → Entails d c s b → WordAt d c defined b w → WordAt d c defined s w
    word_from s b w k h = record {
      seen = h.seen;
      facts = h.facts;
      entails = λ e f o. h.entails e f (k e f o);
      knows = λ e f o. h.knows e f (k e f o);
      rules = h.rules;
      met = h.met;
      formed = h.formed;
    }

    -- the same of a command with a name
    pub ordinary_nonzero : (x : Around) (n : ℕ) (es : p.Elements) (m : ℕ) (name : Text) (operands : List Text) → BehindName m es name operands → RulesAt d c defined x n es
        → is_special (kind_of name) ≡ false → is_redirected (redirects_in es) ≡ true → Entails d c (behind d c n es) (at (AfterNonzero n))
    unfolding is_ordinary
    ordinary_nonzero x n es m name operands b r o h = go (is_one_of defined name) refl
      where
        go : (v : Bool) → is_one_of defined name ≡ v → Entails d c (behind d c n es) (at (AfterNonzero n))
        go true q = fails_nonzero x n es (Call name b.others) (rules_by x n es (Call name b.others) r (call_manner defined m es name operands b q o)) refl h
        go false q = fails_nonzero x n es (Utility (kind_of name) b.others) (rules_by x n es (Utility (kind_of name) b.others) r (utility_manner defined m es name operands b q)) (rw o refl) h

    pub nameless_nonzero : (x : Around) (n : ℕ) (es : p.Elements) (m : ℕ) → FieldsFit m es [] [] → RulesAt d c defined x n es → is_redirected (redirects_in es) ≡ true
        → Entails d c (behind d c n es) (at (AfterNonzero n))
    unfolding is_ordinary
    nameless_nonzero x n es m b r h = fails_nonzero x n es Nameless (rules_by x n es Nameless r (nameless_manner defined m es b)) refl h
