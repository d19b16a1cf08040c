-- A certificate that claims more leaves no place unmet that one with less claims meets: a case for
-- each piece of a program.
use Rattle.std.proofs.Common.{◌≡◌, ℕ, Bool, true, false, not, ◌&&◌, ◌||◌, if◌then◌else◌, List, [], ◌∷◌, ◌++◌, map, Option, Some, None, refl, sym, ◌∙◌, ap, subst}
use Rattle.std.specs.List.{flat_map, fold, list_any}
use Rattle.std.specs.Str.{bytes_eq}
use Rattle.std.proofs.lemmas.Bool.{true≢false}
use Rattle.std.proofs.lemmas.List.Folds.{list_any-append}
use Rattle.std.proofs.lemmas.Slice.Eq.{bytes_eq-Decides}
use Rattle.sh_tree.specs.declared.place.Code.{Code}
use Rattle.sh_tree.specs.declared.place.Place.{Place}
use Rattle.sh_tree.specs.declared.tree.Action.TheVariants as action
use Rattle.sh_tree.specs.declared.tree.Special.TheVariants as special
use Rattle.sh_tree.specs.standard.program.Syntax as p
use Rattle.sh_tree.specs.standard.program.Syntax.{Text}
use Rattle.sh_tree.specs.standard.program.Words.{operands_in}
use Rattle.sh_runs.specs.standard.runs.Environment.{is_one_of}
use Rattle.sh_domain.specs.Demands.{elements_unmet, clauses_unmet, for_words_unmet, kind_unmet, with_text, dropped, command_moves, drop_at, move_at, is_reached, shared_unmet, unmet, demands}
use Rattle.sh_domain.specs.Entries.{Around, Entered, script_entered}
use Rattle.sh_domain.specs.Facts.{Facts, Nowhere, Variable, Parameters, claims, facts, Unreached}
use Rattle.sh_domain.specs.Gains.{Gains, sure, part_gains, expanded_gains, word_gains, words_gains, redirect_gains, redirects_gains, with_gains, job}
use Rattle.sh_domain.specs.Needs.{wanted, covers, needed, name_needed, target_needed, reads_unmet, operands_read, part_unmet, word_unmet, operator_unmet, expanded_unmet, operands_expanded, words_unmet, patterns_unmet, redirect_unmet, redirects_unmet}
use Rattle.sh_domain.specs.Operands.{Names, no_names}
use Rattle.sh_domain.specs.Order.{IsWithin, IsBelow, AreAmong}
use Rattle.sh_domain.specs.Rules.{functions_of, losses}
use Rattle.sh_domain.specs.Views.{Certificate, Before, Gain, Loss, lost, step}
use Rattle.sh_domain.specs.declared.rule.FlowRule.{FlowRule}
use Rattle.sh_domain.specs.Views.{Seen}
use Rattle.sh_domain.proofs.MonotoneLemmas.{step_grows, loss_falls}
use Rattle.sh_domain.proofs.OrderLemmas.{within_itself}
use Rattle.sh_accept.proofs.DistinctLemmas.{in_fold}

-- all that is in the second row is in the first
pub record Falls {A : Type 0} (xs ys : List A) : Type 0 where
  pub kept : (test : A → Bool) → list_any test ys ≡ true → list_any test xs ≡ true

or_kept : (a b c d : Bool) → (a ≡ true → c ≡ true) → (b ≡ true → d ≡ true) → (a || b) ≡ true → (c || d) ≡ true
or_kept true b true d h g e = refl
or_kept true b false d h g e = absurd (true≢false (sym (h refl)))
or_kept false b true d h g e = refl
or_kept false b false d h g e = g e

pub same : {A : Type 0} (xs : List A) → Falls xs xs
same xs = record { kept = λ test h. h }

none : {A : Type 0} (xs : List A) → Falls xs []
none xs = record { kept = λ test h. absurd (true≢false (sym h)) }

pub join : {A : Type 0} {xs ys us vs : List A} → Falls xs us → Falls ys vs → Falls (xs ++ ys) (us ++ vs)
join {A} {xs} {ys} {us} {vs} h g = record {
  kept = λ test e.
      list_any-append test xs ys
      ∙ or_kept (list_any test us) (list_any test vs) (list_any test xs) (list_any test ys) (h.kept test) (g.kept test) (sym (list_any-append test us vs) ∙ e);
}

pub nothing_left : {A : Type 0} (xs ys : List A) → Falls xs ys → xs ≡ [] → ys ≡ []
nothing_left xs [] h e = refl
nothing_left xs (y ∷ ys) h e = absurd (true≢false (sym (subst (λ zs. list_any (λ z. true) zs ≡ true) e (h.kept (λ z. true) refl))))

-- Facts that claim more

below_itself : (c : Certificate) → IsBelow c c
below_itself c = record { claimed = λ s. within_itself _; dropped = λ f. record { vars = λ x e. e; functions = λ x e. e } }

gains : (x : Gains) (f g : Facts) → IsWithin f g → IsWithin (with_gains x f) (with_gains x g)
unfolding step
gains x f g h = let c : Certificate = record { claim = λ s. Unreached; drops = λ f. no_names } in step_grows c c (Gain x) f g (below_itself c) h

wants : (a b : Bool) (at : ℕ) (code : Code) (t : Text) → (a ≡ true → b ≡ true) → Falls (wanted a at code t) (wanted b at code t)
unfolding wanted
wants true true at code t h = none _
wants true false at code t h = absurd (true≢false (sym (h refl)))
wants false true at code t h = none _
wants false false at code t h = same _

module _ (f g : Facts) (h : IsWithin f g) where
  covered : (q : p.Parameter) → covers f q ≡ true → covers g q ≡ true
  unfolding covers
  covered (p.Variable name) e = h.claimed (Variable name) e
  covered (p.Positional n) e = h.claimed (Parameters n) e
  covered (p.Special special.At) e = refl
  covered (p.Special special.Asterisk) e = refl
  covered (p.Special special.NumberSign) e = refl
  covered (p.Special special.QuestionMark) e = refl
  covered (p.Special special.Hyphen) e = refl
  covered (p.Special special.Dollar) e = refl
  covered (p.Special special.Exclamation) e = h.claimed (Variable job) e
  covered (p.Special special.Zero) e = refl

  parameter : (at : ℕ) (q : p.Parameter) → Falls (needed f at q) (needed g at q)
  parameter at q = wants (covers f q) (covers g q) at _ _ (covered q)

  name : (code : Code) (at : ℕ) (t : Text) → Falls (name_needed f code at t) (name_needed g code at t)
  unfolding name_needed
  name code at t = wants (claims f (Variable t)) (claims g (Variable t)) at code t (h.claimed (Variable t))

  target : {A : Type 0} (o : Option A) (at : ℕ) (t : Text) → Falls (target_needed f o at t) (target_needed g o at t)
  unfolding target_needed
  target None at t = same _
  target (Some x) at t = name _ at t

  mutual
    unfolding reads_unmet operands_read

    reads : (e : p.Expression) → Falls (reads_unmet f e) (reads_unmet g e)
    reads (p.Constant t) = same _
    reads (p.Name at t) = name _ at t
    reads (p.Expanded x) = same _
    reads (p.Parenthesis e) = reads e
    reads (p.Signed operator e) = reads e
    reads (p.Chain e rest) = join (reads e) (operands rest)
    reads (p.Choice e v w) = join (join (reads e) (reads v)) (reads w)
    reads (p.Assigned at t operator e) = join (target operator at t) (reads e)

    operands : (es : p.Operands) → Falls (operands_read f es) (operands_read g es)
    operands p.no_operands = same _
    operands (p.more_operands operator e rest) = join (reads e) (operands rest)

-- Words

mutual
  unfolding part_unmet word_unmet operator_unmet expanded_unmet operands_expanded

  part : (f g : Facts) → IsWithin f g → (x : p.Part) → Falls (part_unmet f x) (part_unmet g x)
  part f g h (p.Plain t) = same _
  part f g h (p.Escaped t) = same _
  part f g h (p.Single style t) = same _
  part f g h (p.Double w) = word f g h w
  part f g h (p.Expansion at q operator) = operated f g h at q operator
  part f g h (p.Arithmetic at e) = join (expanded f g h e) (reads _ _ (gains (expanded_gains e) f g h) e)
  part f g h (p.Substitution at list) = same _
  part f g h (p.Tilde at []) = name f g h _ at _
  part f g h (p.Tilde at (c ∷ t)) = same _
  part f g h p.Joined = same _

  word : (f g : Facts) → IsWithin f g → (w : p.Word) → Falls (word_unmet f w) (word_unmet g w)
  word f g h p.no_parts = same _
  word f g h (p.more_parts x w) = join (part f g h x) (word _ _ (gains (part_gains x) f g h) w)

  operated : (f g : Facts) → IsWithin f g → (at : ℕ) (q : p.Parameter) (o : p.Operator) → Falls (operator_unmet f at q o) (operator_unmet g at q o)
  operated f g h at q p.Value = parameter f g h at q
  operated f g h at q p.Length = parameter f g h at q
  operated f g h at q (p.Remove removal w) = join (parameter f g h at q) (word f g h w)
  operated f g h at q (p.Use action.Alternative colon w) = word _ _ (gains (sure q) f g h) w
  operated f g h at q (p.Use action.Default colon w) = word f g h w
  operated f g h at q (p.Use action.Assign colon w) = word f g h w
  operated f g h at q (p.Use action.Fault colon w) = word f g h w

  expanded : (f g : Facts) → IsWithin f g → (e : p.Expression) → Falls (expanded_unmet f e) (expanded_unmet g e)
  expanded f g h (p.Constant t) = same _
  expanded f g h (p.Name at t) = same _
  expanded f g h (p.Expanded x) = part f g h x
  expanded f g h (p.Parenthesis e) = expanded f g h e
  expanded f g h (p.Signed operator e) = expanded f g h e
  expanded f g h (p.Chain e rest) = join (expanded f g h e) (all_expanded _ _ (gains (expanded_gains e) f g h) rest)
  expanded f g h (p.Choice e v w) =
      let more = gains (expanded_gains e) f g h in
      join (join (expanded f g h e) (expanded _ _ more v)) (expanded _ _ (gains (expanded_gains v) _ _ more) w)
  expanded f g h (p.Assigned at t operator e) = expanded f g h e

  all_expanded : (f g : Facts) → IsWithin f g → (es : p.Operands) → Falls (operands_expanded f es) (operands_expanded g es)
  all_expanded f g h p.no_operands = same _
  all_expanded f g h (p.more_operands operator e rest) = join (expanded f g h e) (all_expanded _ _ (gains (expanded_gains e) f g h) rest)

words : (f g : Facts) → IsWithin f g → (ws : p.Words) → Falls (words_unmet f ws) (words_unmet g ws)
unfolding words_unmet
words f g h p.no_words = same _
words f g h (p.more_words w ws) = join (word f g h w) (words (with_gains (word_gains w) f) (with_gains (word_gains w) g) (gains (word_gains w) f g h) ws)

patterns : (f g : Facts) → IsWithin f g → (ws : p.Words) → Falls (patterns_unmet f ws) (patterns_unmet g ws)
unfolding patterns_unmet
patterns f g h p.no_words = same _
patterns f g h (p.more_words w ws) = join (word f g h w) (patterns f g h ws)

redirect : (f g : Facts) → IsWithin f g → (r : p.Redirect) → Falls (redirect_unmet f r) (redirect_unmet g r)
unfolding redirect_unmet
redirect f g h (p.File w) = word f g h w
redirect f g h (p.Here w) = word f g h w

redirects : (f g : Facts) → IsWithin f g → (rs : p.Redirects) → Falls (redirects_unmet f rs) (redirects_unmet g rs)
unfolding redirects_unmet
redirects f g h p.no_redirects = same _
redirects f g h (p.more_redirects r rs) = join (redirect f g h r) (redirects (with_gains (redirect_gains r) f) (with_gains (redirect_gains r) g) (gains (redirect_gains r) f g h) rs)

-- Commands

elements : (f g u v : Facts) → IsWithin f g → IsWithin u v → (es : p.Elements) → Falls (elements_unmet f u es) (elements_unmet g v es)
unfolding elements_unmet
elements f g u v h k p.no_elements = same _
elements f g u v h k (p.assignment t value es) = join (word u v k value) (elements f g u v h k es)
elements f g u v h k (p.operand w es) = join (word f g h w) (elements (with_gains (word_gains w) f) (with_gains (word_gains w) g) u v (gains (word_gains w) f g h) k es)
elements f g u v h k (p.redirection r es) = join (redirect u v k r) (elements f g u v h k es)

clauses : (f g : Facts) → IsWithin f g → (cs : p.Clauses) → Falls (clauses_unmet f cs) (clauses_unmet g cs)
unfolding clauses_unmet
clauses f g h p.no_clauses = same _
clauses f g h (p.more_clauses ws body end rest) = join (patterns f g h ws) (clauses f g h rest)

for_words : (f g : Facts) → IsWithin f g → (ws : p.ForWords) → Falls (for_words_unmet f ws) (for_words_unmet g ws)
unfolding for_words_unmet
for_words f g h p.every_parameter = same _
for_words f g h (p.listed ws) = words f g h ws

kind : (f g : Facts) → IsWithin f g → (k : p.Kind) → Falls (kind_unmet f k) (kind_unmet g k)
unfolding kind_unmet
kind f g h (p.Simple es) = elements f g _ _ h (gains (words_gains (operands_in es)) f g h) es
kind f g h (p.Group list) = same _
kind f g h (p.Subshell list) = same _
kind f g h (p.Conditional choices otherwise) = same _
kind f g h (p.Loop k condition body) = same _
kind f g h (p.For t ws body) = for_words f g h ws
kind f g h (p.Case w cs) = join (word f g h w) (clauses _ _ (gains (word_gains w) f g h) cs)
kind f g h (p.Define t body) = same _

-- What is dropped

in_once : (names xs : List Text) (u : Text) → is_one_of (fold with_text names xs) u ≡ (is_one_of names u || is_one_of xs u)
unfolding with_text
in_once names xs u = in_fold names xs u

-- texts, each of which is in other ones
text_found : (test : Text → Bool) (xs : List Text) (y : Text) → is_one_of xs y ≡ true → test y ≡ true → list_any test xs ≡ true
text_found test [] y e k = e
text_found test (x ∷ xs) y e k = go (bytes_eq x y) refl e (λ r. text_found test xs y r k)
  where
    right : (a b : Bool) → b ≡ true → (a || b) ≡ true
    right true b h = refl
    right false b h = h

    left : (a b : Bool) → a ≡ true → (a || b) ≡ true
    left true b h = refl
    left false b h = absurd (true≢false (sym h))

    go : (b : Bool) → bytes_eq x y ≡ b → (b || is_one_of xs y) ≡ true → (is_one_of xs y ≡ true → list_any test xs ≡ true) → (test x || list_any test xs) ≡ true
    go true s r more = left (test x) (list_any test xs) (ap test ((bytes_eq-Decides x y).0 s) ∙ k)
    go false s r more = right (test x) (list_any test xs) (more r)

texts_found : (test : Text → Bool) (xs ys : List Text) → ((x : Text) → is_one_of ys x ≡ true → is_one_of xs x ≡ true) → list_any test ys ≡ true → list_any test xs ≡ true
texts_found test xs [] h e = absurd (true≢false (sym e))
texts_found test xs (y ∷ ys) h e = go (test y) refl e (texts_found test xs ys (λ x k. h x (right (bytes_eq y x) (is_one_of ys x) k)))
  where
    right : (a b : Bool) → b ≡ true → (a || b) ≡ true
    right true b h = refl
    right false b h = h

    first : (b : Bool) → b ≡ true → (b || is_one_of ys y) ≡ true
    first true k = refl
    first false k = absurd (true≢false (sym k))

    go : (b : Bool) → test y ≡ b → (b || list_any test ys) ≡ true → (list_any test ys ≡ true → list_any test xs ≡ true) → list_any test xs ≡ true
    go true s r more = text_found test xs y (h y (first (bytes_eq y y) ((bytes_eq-Decides y y).1 refl))) s
    go false s r more = more r

abbrev pub all_of : List Names → List Text
all_of ls = flat_map (λ l. l.vars ++ l.functions) ls

module _ (d : Facts) (c e : Certificate) (below : IsBelow c e) where
  -- a command drops no more by the certificate with more claims
  drops_fewer : (n : ℕ) (ls : List Loss) → Falls (all_of (map (lost d c n) ls)) (all_of (map (lost d e n) ls))
  drops_fewer n [] = same _
  drops_fewer n (l ∷ ls) =
      let fewer : AreAmong (lost d e n l) (lost d c n l) = loss_falls d c e n l below in
      join (join (names_of (lost d c n l).vars (lost d e n l).vars fewer.vars) (names_of (lost d c n l).functions (lost d e n l).functions fewer.functions)) (drops_fewer n ls)
    where
      names_of : (xs ys : List Text) → ((x : Text) → is_one_of ys x ≡ true → is_one_of xs x ≡ true) → Falls xs ys
      names_of xs ys h = record { kept = λ test k. texts_found test xs ys h k }

  any_mapped : (test : Place → Bool) (at : ℕ) (xs : List Text) → list_any test (map (drop_at at) xs) ≡ list_any (λ x. test (drop_at at x)) xs
  any_mapped test at [] = refl
  any_mapped test at (x ∷ xs) = ap (λ b. test (drop_at at x) || b) (any_mapped test at xs)

  dropped_fewer : (at n : ℕ) (ls : List Loss) → Falls (map (drop_at at) (dropped d c n ls)) (map (drop_at at) (dropped d e n ls))
  dropped_fewer at n ls = record {
    kept = λ test k.
        any_mapped test at (dropped d c n ls)
        ∙ texts_found (λ x. test (drop_at at x)) (dropped d c n ls) (dropped d e n ls)
        (λ x m. in_once [] (all_of (map (lost d c n) ls)) x ∙ (drops_fewer n ls).kept (λ y. bytes_eq y x) (sym (in_once [] (all_of (map (lost d e n) ls)) x) ∙ m))
        (sym (any_mapped test at (dropped d e n ls)) ∙ k);
  }

  moved : (at : ℕ) (a b : Bool) → (b ≡ true → a ≡ true) → Falls (move_at at a) (move_at at b)
  unfolding move_at
  moved at a false h = none _
  moved at true true h = same _
  moved at false true h = absurd (true≢false (sym (h refl)))

  reached : (f g : Facts) (m : Bool) → IsWithin f g → (m && is_reached g) ≡ true → (m && is_reached f) ≡ true
  unfolding is_reached
  reached f g false h k = k
  reached f g true h k = go (claims f Nowhere) refl
    where
      go : (b : Bool) → claims f Nowhere ≡ b → not b ≡ true
      go true s = sym (ap not (h.claimed Nowhere s)) ∙ k
      go false s = refl

  shared : (functions : List Text) (x : Entered) (n at : ℕ) (k : p.Kind) → Falls (shared_unmet d c functions x n at k) (shared_unmet d e functions x n at k)
  unfolding shared_unmet
  shared functions x n at k =
      join (dropped_fewer at n (losses functions x))
      (moved at _ _ (reached (facts (c.claim (Before n))) (facts (e.claim (Before n))) (command_moves functions k) (below.claimed (Before n))))

  where_shared : (b : Bool) (xs ys : List Place) → Falls xs ys → Falls (if b then xs else []) (if b then ys else [])
  where_shared true xs ys h = h
  where_shared false xs ys h = same _

  command : (functions : List Text) (x : p.Command) (rule : FlowRule) (around : Around) (seen : Seen)
      → Falls (unmet d c functions (record { command = x; rule = rule; around = around; seen = seen })) (unmet d e functions (record { command = x; rule = rule; around = around; seen = seen }))
  unfolding unmet
  command functions (p.command n at k rs) rule around seen =
      let h : IsWithin (facts (c.claim (Before n))) (facts (e.claim (Before n))) = below.claimed (Before n) in
      join (join (redirects _ _ h rs) (kind _ _ (gains (redirects_gains rs) _ _ h) k))
      (where_shared around.shares _ _ (shared functions (record { command = p.command n at k rs; rule = rule; around = around; seen = seen }) n at k))

  commands : (functions : List Text) (xs : List Entered) → Falls (flat_map (unmet d c functions) xs) (flat_map (unmet d e functions) xs)
  commands functions [] = same _
  commands functions (x ∷ xs) = join (command functions x.command x.rule x.around x.seen) (commands functions xs)

  -- of a program
  pub demands_fall : (t : p.Items) → Falls (demands d c t) (demands d e t)
  unfolding demands
  demands_fall t = commands (functions_of (script_entered t)) (script_entered t)
