-- The rule that a command breaks, by what is kept of it.
use Rattle.std.proofs.Common.{◌≡◌, ℕ, ◌≤◌, Bool, true, false, not, cond, if◌then◌else◌, List, [], ◌∷◌, ◌++◌, map, nat_lt, Option, Some, None, option_map, refl, sym, ap, ap₂, ◌∙◌, arith}
use Rattle.std.proofs.lemmas.Bool.Decides.{nat_tests}
use Rattle.std.proofs.lemmas.List.{append-nil}
use Rattle.std.proofs.lemmas.Slice.Eq.{bytes_eq-Decides}
use Rattle.std.specs.List.{filter_map, cons_option}
use Rattle.std.specs.Str.{bytes_eq}
use Rattle.sh_tree.specs.declared.refusal.Rule.{Rule}
use Rattle.sh_tree.specs.standard.program.Syntax as p
use Rattle.sh_tree.specs.standard.program.Syntax.{Text}
use Rattle.sh_tree.specs.standard.program.Words.{static_of, words_in, is_pattern, is_plainly, part_text}
use Rattle.sh_table.specs.Admits.{text_rule, form_rule, refused_site, or_refused, first_of}
use Rattle.sh_runs.specs.Profile.{Static, Refused, named_rule, words_rule, command_rule, refused_at, least_refused, first_refused}
use Rattle.sh_runs.specs.Sites.{Site, site_of, form_of, placed, by_number, sites_of}
use Rattle.sh_runs.specs.Surroundings.{Surroundings, Located, outside, items_located}
use Rattle.sh_table.specs.Walks.{is_plain, is_quoted}
use Rattle.sh_table.proofs.OrderLemmas.{Above, Rises, number_of, rises_by_number}

-- a static word is plainly its text if it is plain bytes alone

plain_is : (u t : Text) (pattern : Bool) → cond pattern None (Some (u ++ [])) ≡ Some t → bytes_eq u t ≡ true
plain_is u t true e = cc
plain_is u t false e = let same : u ++ [] ≡ t = cc in (bytes_eq-Decides u t).1 (sym (append-nil u) ∙ same)

plainly : (w : p.Word) (t : Text) → static_of w ≡ Some t → is_plainly t w ≡ is_plain w
unfolding is_plainly is_plain static_of part_text
plainly p.no_parts t h = refl
plainly (p.more_parts (p.Plain u) p.no_parts) t h = plain_is u t (is_pattern (p.more_parts (p.Plain u) p.no_parts)) h
plainly (p.more_parts (p.Plain u) (p.more_parts y ys)) t h = refl
plainly (p.more_parts y ys) t h = refl

named : (x : Surroundings) (w : p.Word) (ts : List Static) → named_rule x w (static_of w) ts ≡ text_rule x (not (is_plain w)) (static_of w ∷ ts)
unfolding named_rule text_rule
named x w ts = go (static_of w) refl
  where
    go : (o : Static) → static_of w ≡ o → named_rule x w o ts ≡ text_rule x (not (is_plain w)) (o ∷ ts)
    go None e = refl
    go (Some t) e = rw (plainly w t e) refl

pub rule_of_words : (x : Surroundings) (ws : p.Words) → text_rule x (is_quoted ws) (map static_of (words_in ws)) ≡ words_rule x ws
unfolding text_rule is_quoted words_in words_rule
rule_of_words x p.no_words = refl
rule_of_words x (p.more_words w ws) = sym (named x w (map static_of (words_in ws)))

-- the refused command with the least number is the first one by numbers

site_refused : (l : Located) → refused_at l ≡ refused_site (site_of l)
unfolding refused_at refused_site site_of form_rule form_of command_rule
site_refused l = go l.command
  where
    go : (c : p.Command) → refused_at (record l { command = c }) ≡ refused_site (site_of (record l { command = c }))
    go (p.command number at (p.Simple es) rs) = refl
    go (p.command number at (p.Group t) rs) = refl
    go (p.command number at (p.Subshell t) rs) = refl
    go (p.command number at (p.Conditional bs o) rs) = refl
    go (p.command number at (p.Loop k c t) rs) = refl
    go (p.command number at (p.For n ws t) rs) = refl
    go (p.command number at (p.Case w cs) rs) = refl
    go (p.command number at (p.Define n c) rs) = refl

sites_refused : (ls : List Located) → filter_map refused_at ls ≡ filter_map refused_site (map site_of ls)
sites_refused [] = refl
sites_refused (l ∷ ls) = ap₂ cons_option (site_refused l) (sites_refused ls)

-- the first of one and of others
abbrev sooner : Option Refused → Option Refused → Option Refused
sooner None o = o
sooner (Some r) None = Some r
sooner (Some r) (Some q) = if nat_lt q.number r.number then Some q else Some r

least_sooner : (o : Option Refused) (rs : List Refused) → least_refused (cons_option o rs) ≡ sooner o (least_refused rs)
unfolding least_refused
least_sooner None rs = refl
least_sooner (Some r) rs = go (least_refused rs) refl
  where
    go : (o : Option Refused) → least_refused rs ≡ o → least_refused (r ∷ rs) ≡ sooner (Some r) o
    go None e = rw e refl
    go (Some q) e = rw e refl

number_kept : (s : Site) (r : Refused) → refused_site s ≡ Some r → r.number ≡ s.number
unfolding refused_site
number_kept s r e = go (form_rule s.surroundings s.form) e
  where
    go : (o : Option Rule) → option_map (λ (y : Rule). record { number = s.number; at = s.at; rule = y }) o ≡ Some r → r.number ≡ s.number
    go None h = cc
    go (Some y) h = let same : record { number = s.number; at = s.at; rule = y } ≡ r = cc in ap (λ (q : Refused). q.number) (sym same)

first_more : (s : Site) (ss : List Site) (o : Option Refused) → refused_site s ≡ o → first_of (s ∷ ss) ≡ or_refused o (first_of ss)
unfolding first_of or_refused
first_more s ss None e = rw e refl
first_more s ss (Some r) e = rw e refl

no_first : {A : Type 0} (q : Refused) → first_of [] ≡ Some q → A
unfolding first_of
no_first q e = cc

first_above : (n : ℕ) (ss : List Site) (q : Refused) → Above number_of n ss → first_of ss ≡ Some q → n ≤ q.number
unfolding or_refused
first_above n [] q a e = no_first q e
first_above n (s ∷ ss) q a e = go (first_above n ss q a.1) (refused_site s) refl
  where
    go : (first_of ss ≡ Some q → n ≤ q.number) → (o : Option Refused) → refused_site s ≡ o → n ≤ q.number
    go more None h = more (sym (first_more s ss None h) ∙ e)
    go more (Some r) h =
        let found : Some r ≡ Some q = sym (first_more s ss (Some r) h) ∙ e in
        let same : r ≡ q = cc in
        let number : r.number ≡ s.number = number_kept s r h in
        let kept : q.number ≡ s.number = ap (λ (y : Refused). y.number) (sym same) ∙ number in
        let least : n ≤ s.number = a.0 in omega (arith, kept, least)

alone : (s : Site) (u : Option Refused) → refused_site s ≡ u → first_of (s ∷ []) ≡ sooner u (first_of [])
unfolding first_of or_refused
alone s None e = rw e refl
alone s (Some q) e = rw e refl

placed_first : (s : Site) (ss : List Site) → Rises number_of ss → first_of (placed s ss) ≡ sooner (refused_site s) (first_of ss)
unfolding placed or_refused
placed_first s [] r = alone s (refused_site s) refl
placed_first s (x ∷ xs) r = go (placed_first s xs r.1) (nat_lt x.number s.number) refl (refused_site x) refl (refused_site s) refl
  where
    later : (y : Refused) → refused_site s ≡ Some y → nat_lt x.number s.number ≡ false → (v : Option Refused) → first_of (x ∷ xs) ≡ v → Some y ≡ sooner (Some y) v
    later y u l None v = refl
    later y u l (Some q) v =
        let above : x.number ≤ q.number = first_above x.number (x ∷ xs) q (omega arith, r.0) v in
        let number : y.number ≡ s.number = number_kept s y u in
        let least : s.number ≤ x.number = grind (arith, nat_tests) in
        let below : y.number ≤ q.number = omega (arith, number, least, above) in
        let order : nat_lt q.number y.number ≡ false = grind (arith, nat_tests) in rw order refl

    go : first_of (placed s xs) ≡ sooner (refused_site s) (first_of xs) → (t : Bool) → nat_lt x.number s.number ≡ t → (o : Option Refused) → refused_site x ≡ o
        → (u : Option Refused) → refused_site s ≡ u → first_of (cond t (x ∷ placed s xs) (s ∷ x ∷ xs)) ≡ sooner u (first_of (x ∷ xs))
    go more true l (Some q) o None u = first_more x (placed s xs) (Some q) o ∙ sym (first_more x xs (Some q) o)
    go more true l (Some q) o (Some y) u =
        let order : nat_lt q.number y.number ≡ true = ap₂ nat_lt (number_kept x q o) (number_kept s y u) ∙ l in
        let picks : Some q ≡ sooner (Some y) (Some q) = rw order refl in
        first_more x (placed s xs) (Some q) o ∙ picks ∙ ap (sooner (Some y)) (sym (first_more x xs (Some q) o))
    go more true l None o v u = first_more x (placed s xs) None o ∙ more ∙ ap₂ sooner u (sym (first_more x xs None o))
    go more false l o h None u = first_more s (x ∷ xs) None u
    go more false l o h (Some y) u = first_more s (x ∷ xs) (Some y) u ∙ later y u l (first_of (x ∷ xs)) refl

no_least : least_refused [] ≡ first_of (by_number [])
unfolding least_refused first_of by_number
no_least = refl

by_number_more : (s : Site) (ss : List Site) → by_number (s ∷ ss) ≡ placed s (by_number ss)
unfolding by_number
by_number_more s ss = refl

least_first : (ss : List Site) → least_refused (filter_map refused_site ss) ≡ first_of (by_number ss)
least_first [] = no_least
least_first (s ∷ ss) =
    least_sooner (refused_site s) (filter_map refused_site ss) ∙ ap (sooner (refused_site s)) (least_first ss)
    ∙ sym (placed_first s (by_number ss) (rises_by_number ss)) ∙ ap first_of (sym (by_number_more s ss))

pub first_by_number : (t : p.Items) → first_refused t ≡ first_of (sites_of t)
unfolding first_refused sites_of
first_by_number t = ap least_refused (sites_refused (items_located outside t)) ∙ least_first (map site_of (items_located outside t))
