-- What a visit does is what the rules require of the command as it is entered.
use Rattle.std.proofs.Common.{◌≡◌, ℕ, ◌<◌, ◌≤◌, Bool, true, false, List, [], ◌∷◌, length, map, Option, Some, None, is_some, option_map, refl, sym, ap, ap₂, ◌∙◌, arith}
use Rattle.sh_tree.specs.declared.tree.Branch.{Branch}
use Rattle.sh_tree.specs.declared.tree.Clause.{Clause}
use Rattle.sh_tree.specs.declared.tree.Command.{Command}
use Rattle.sh_tree.specs.declared.tree.Element.{Element}
use Rattle.sh_tree.specs.declared.tree.Kind.TheVariants as kind
use Rattle.sh_tree.specs.declared.tree.LoopKind.{LoopKind}
use Rattle.sh_tree.specs.declared.tree.Redirect.{Redirect}
use Rattle.sh_tree.specs.declared.tree.Script.{Script}
use Rattle.sh_tree.specs.declared.tree.Span.{Span}
use Rattle.sh_tree.specs.declared.tree.Word.{Word}
use Rattle.sh_tree.specs.standard.Tree.{text_of}
use Rattle.sh_tree.specs.Lists.{elements_from, redirects_from}
use Rattle.sh_tree.specs.standard.program.Syntax as p
use Rattle.sh_tree.specs.standard.program.Syntax.{Text}
use Rattle.sh_tree.specs.standard.program.Trees as trees
use Rattle.sh_tree.proofs.ProgramRules as rules
use Rattle.sh_runs.specs.Calls.{callee_at, text_at, texts_with}
use Rattle.sh_runs.specs.Profile.{Static}
use Rattle.sh_table.specs.WordTexts.{text_in}
use Rattle.sh_table.specs.declared.word_text.WordText.{WordText}
use Rattle.sh_domain.specs.declared.knowledge.Knowledge.{Knowledge}
use Rattle.sh_domain.specs.declared.rule.FlowRule.{FlowRule}
use Rattle.sh_domain.specs.Entries as e
use Rattle.sh_domain.specs.Facts.{Facts}
use Rattle.sh_domain.specs.Names.{number_of}
use Rattle.sh_domain.specs.Table.{is_redirected}
use Rattle.sh_rules.specs.declared.around.Around.{Around}
use Rattle.sh_rules.specs.declared.claims.Claims.{Claims}
use Rattle.sh_rules.specs.Asking.{Asking}
use Rattle.sh_rules.specs.Settings.{Setting}
use Rattle.sh_rules.specs.Bounds.{compound_told}
use Rattle.sh_rules.specs.Steps.{met_in}
use Rattle.sh_rules.specs.TextTells.{simple_by, drops_by}
use Rattle.sh_rules.specs.Visits.{calls_at, simple_in, claims_as, claims_by, drops_as, counted_by, command_by, visited}
use Rattle.sh_rules.specs.Walks.{around, facts_in, setting}

-- What the call table has of a command

pub texts_read : (c : Claims) (ts : List WordText) (n : ℕ) → map (text_in c.calls.now.script) ts ≡ texts_with n c.calls.now.rows
    → map (text_in (setting c).script) ts ≡ texts_with n (setting c).rows
unfolding setting
texts_read c ts n same = ap (λ s. map (text_in s) ts) (sym c.read) ∙ same

pub call_read : (c : Claims) (n : ℕ) (o : Option ℕ) → o ≡ callee_at c.calls.now n → is_some o ≡ calls_at (setting c) n
unfolding callee_at text_at setting
call_read c n o same = ap (λ (i : Option ℕ). is_some i) same

pub index_read : (c : Claims) (o : Option ℕ) (s : Span) → o ≡ number_of c.calls.now.functions.names (text_of c.calls.now.script s) → o ≡ number_of (setting c).functions (text_of (setting c).script s)
unfolding setting
index_read c o s same = same ∙ ap (λ b. number_of c.calls.now.functions.names (text_of b s)) c.read

-- Simple commands

pub simple_in-Simple : (b : List ℕ) (es : List Element) → simple_in (trees.kind_of b (kind.Simple es)) ≡ Some (elements_from b es)
unfolding simple_in
simple_in-Simple b es = ap simple_in (rules.kind_of-Simple b es)

pub simple_in-Group : (b : List ℕ) (t : Script) → simple_in (trees.kind_of b (kind.Group t)) ≡ None
unfolding simple_in
simple_in-Group b t = ap simple_in (rules.kind_of-Group b t)

pub simple_in-Subshell : (b : List ℕ) (t : Script) → simple_in (trees.kind_of b (kind.Subshell t)) ≡ None
unfolding simple_in
simple_in-Subshell b t = ap simple_in (rules.kind_of-Subshell b t)

pub simple_in-Cond : (b : List ℕ) (bs : List Branch) (o : Option Script) → simple_in (trees.kind_of b (kind.Cond bs o)) ≡ None
unfolding simple_in
simple_in-Cond b bs o = ap simple_in (rules.kind_of-Cond b bs o)

pub simple_in-Loop : (b : List ℕ) (k : LoopKind) (c t : Script) → simple_in (trees.kind_of b (kind.Loop k c t)) ≡ None
unfolding simple_in
simple_in-Loop b k c t = ap simple_in (rules.kind_of-Loop b k c t)

pub simple_in-For : (b : List ℕ) (s : Span) (o : Option (List Word)) (t : Script) → simple_in (trees.kind_of b (kind.For s o t)) ≡ None
unfolding simple_in
simple_in-For b s o t = ap simple_in (rules.kind_of-For b s o t)

pub simple_in-Branches : (b : List ℕ) (w : Word) (cs : List Clause) → simple_in (trees.kind_of b (kind.Branches w cs)) ≡ None
unfolding simple_in
simple_in-Branches b w cs = ap simple_in (rules.kind_of-Branches b w cs)

pub simple_in-Define : (b : List ℕ) (s : Span) (c : Command) → simple_in (trees.kind_of b (kind.Define s c)) ≡ None
unfolding simple_in
simple_in-Define b s c = ap simple_in (rules.kind_of-Define b s c)

pub ruleset simple_kinds = (simple_in-Simple, simple_in-Group, simple_in-Subshell, simple_in-Cond, simple_in-Loop, simple_in-For, simple_in-Branches, simple_in-Define)

module _ {K : Type 0} (a : Asking K) (x : Setting) (n : ℕ) where
  pub claims_simple : (y : e.Around) (k : Facts) (kind : p.Kind) (es : p.Elements) (calls : Bool) (ts : List Static) (kept new : K)
      → Some es ≡ simple_in kind → calls ≡ calls_at x n → ts ≡ texts_with n x.rows → new ≡ simple_by a x n y es calls ts kept → new ≡ claims_by a x n y k kind kept
  unfolding claims_as
  claims_simple y k kind es calls ts kept new some is texts told =
      told ∙ ap₂ (λ b us. simple_by a x n y es b us kept) is texts ∙ ap (λ o. claims_as a x n y k kind o kept) some

  pub claims_compound : (y : e.Around) (k : Facts) (kind : p.Kind) (kept new : K) → None ≡ simple_in kind → new ≡ compound_told a x n k kind kept → new ≡ claims_by a x n y k kind kept
  unfolding claims_as
  claims_compound y k kind kept new none told = told ∙ ap (λ o. claims_as a x n y k kind o kept) none

  pub drops_simple : (f : Text) (es : p.Elements) (calls : Bool) (ts : List Static) (kept new : K) → calls ≡ calls_at x n → ts ≡ texts_with n x.rows → new ≡ drops_by a x n f es calls ts kept
      → new ≡ drops_as a x n (Some f) (Some es) kept
  unfolding drops_as
  drops_simple f es calls ts kept new is texts told = told ∙ ap₂ (λ b us. drops_by a x n f es b us kept) is texts

  pub counted_simple : (f : Text) (kind : p.Kind) (es : p.Elements) (kept new : K) → Some es ≡ simple_in kind → new ≡ drops_as a x n (Some f) (Some es) kept
      → new ≡ counted_by a x n (Some f) kind kept
  counted_simple f kind es kept new elements told = told ∙ ap (λ fs. drops_as a x n (Some f) fs kept) elements

  pub counted_compound : (f : Text) (kind : p.Kind) (kept : K) → None ≡ simple_in kind → kept ≡ counted_by a x n (Some f) kind kept
  unfolding drops_as
  counted_compound f kind kept none = ap (λ (fs : Option p.Elements). drops_as a x n (Some f) fs kept) none

  pub counted_here : (o : Option Span) (s : Span) (f : Text) (kind : p.Kind) (kept new : K) → o ≡ Some s → f ≡ text_of x.script s → new ≡ counted_by a x n (Some f) kind kept
      → new ≡ counted_by a x n (option_map (text_of x.script) o) kind kept
  counted_here o s f kind kept new some text told =
      told ∙ ap (λ t. counted_by a x n (Some t) kind kept) text ∙ ap (λ q. counted_by a x n (option_map (text_of x.script) q) kind kept) (sym some)

  pub counted_nowhere : (o : Option Span) (kind : p.Kind) (kept : K) → o ≡ None → kept ≡ counted_by a x n (option_map (text_of x.script) o) kind kept
  unfolding drops_as
  counted_nowhere o kind kept none = ap (λ q. counted_by a x n (option_map (text_of x.script) q) kind kept) (sym none)

-- Redirections

pub none_redirected : (b : List ℕ) (rs : List Redirect) → length rs < 1 → false ≡ is_redirected (redirects_from b rs)
unfolding is_redirected redirects_from
none_redirected b [] h = refl
none_redirected b (r ∷ rs) h = absurd (omega (arith, h))

pub some_redirected : (b : List ℕ) (rs : List Redirect) → 1 ≤ length rs → true ≡ is_redirected (redirects_from b rs)
unfolding is_redirected redirects_from
some_redirected b [] h = absurd (omega (arith, h))
some_redirected b (r ∷ rs) h = refl

-- The whole command

pub command_out : {K : Type 0} (a : Asking K) (x : Setting) (by : FlowRule) (y : Around) (k : Knowledge) (c : Command) (kept : K)
    → command_by a x kept (met_in x by y k c) ≡ visited a x by (around x.script y) (facts_in x k) c kept
unfolding command_by
command_out a x by y k c kept =
    ap (λ m. command_by a x kept (record { command = m; rule = by; around = around x.script y; known = facts_in x k })) (rules.command_of-out x.script c)
