-- What is judged of a command's own words is what the demands say, if each name that they may set
-- is numbered.
use Rattle.std.proofs.Common.{◌≡◌, Bool, true, List, ◌++◌, append_assoc, append-nil, refl, sym, ap, ◌∙◌}
use Rattle.std.specs.List.{list_all}
use Rattle.std.proofs.lemmas.Bool.{and_parts}
use Rattle.sh_tree.specs.declared.place.Place.{Place}
use Rattle.sh_tree.specs.standard.program.Syntax as p
use Rattle.sh_tree.specs.standard.program.Syntax.{Text}
use Rattle.sh_tree.specs.standard.program.Words.{operands_in}
use Rattle.sh_runs.specs.standard.runs.Environment.{is_one_of}
use Rattle.sh_domain.specs.Demands.{elements_unmet, clauses_unmet, for_words_unmet, kind_unmet}
use Rattle.sh_domain.specs.Facts.{Facts}
use Rattle.sh_domain.specs.Gains.{word_gains, words_gains, redirect_gains, redirects_gains, with_gains}
use Rattle.sh_domain.specs.Needs.{word_unmet, words_unmet, patterns_unmet, redirect_unmet, redirects_unmet}
use Rattle.sh_demands.specs.Judged.{Judged, judged, word_judged}
use Rattle.sh_gains.specs.Knowing.{Knowing, gained}
use Rattle.sh_demands.specs.Own.{words_judged, patterns_judged, redirect_judged, redirects_judged, elements_judged, clauses_judged, for_words_judged, kind_judged, own_places}
use Rattle.sh_demands.specs.Within.{word_within, words_within, redirect_within, redirects_within, elements_within, clauses_within, for_words_within, kind_within}
use Rattle.sh_demands.specs.Tellings.{OwnTells, known_as}
use Rattle.sh_demands.proofs.TellLemmas.{both_pass, word_pass, gained_whole, facts_whole, still, in_turn, word_told}

-- names that pass

pub elements_pass : (q : Text → Bool) (es : p.Elements) → elements_within q es ≡ true → list_all q (words_gains (operands_in es)).names ≡ true
unfolding elements_within words_gains operands_in
elements_pass q p.no_elements h = refl
elements_pass q (p.assignment name value es) h = elements_pass q es (and_parts (word_within q value) (elements_within q es) h).1
elements_pass q (p.operand w es) h =
    let both = and_parts (word_within q w) (elements_within q es) h in
    both_pass q (word_gains w).names (words_gains (operands_in es)).names (word_pass q w both.0) (elements_pass q es both.1)
elements_pass q (p.redirection r es) h = elements_pass q es (and_parts (redirect_within q r) (elements_within q es) h).1

redirect_pass : (q : Text → Bool) (r : p.Redirect) → redirect_within q r ≡ true → list_all q (redirect_gains r).names ≡ true
unfolding redirect_within redirect_gains
redirect_pass q (p.File w) h = word_pass q w h
redirect_pass q (p.Here w) h = word_pass q w h

redirects_pass : (q : Text → Bool) (rs : p.Redirects) → redirects_within q rs ≡ true → list_all q (redirects_gains rs).names ≡ true
unfolding redirects_within redirects_gains
redirects_pass q p.no_redirects h = refl
redirects_pass q (p.more_redirects r rs) h =
    let both = and_parts (redirect_within q r) (redirects_within q rs) h in
    both_pass q (redirect_gains r).names (redirects_gains rs).names (redirect_pass q r both.0) (redirects_pass q rs both.1)

-- words

words_told : (ws : p.Words) (k : Knowing) (ps : List Place) → words_within (is_one_of k.names) ws ≡ true
    → words_judged (judged k ps) ws ≡ judged (gained (words_gains ws) k) (ps ++ words_unmet k.facts ws)
unfolding words_judged words_within words_gains words_unmet gained
words_told p.no_words k ps h = still k ps
words_told (p.more_words w ws) k ps h =
    let both = and_parts (word_within (is_one_of k.names) w) (words_within (is_one_of k.names) ws) h in
    ap (λ s. words_judged s ws) (word_told w k ps both.0)
    ∙ words_told ws (gained (word_gains w) k) (ps ++ word_unmet k.facts w) both.1
    ∙ in_turn (word_gains w) (words_gains ws) k ps (word_unmet k.facts w) (λ f. words_unmet f ws) (word_pass (is_one_of k.names) w both.0)

-- a word aside
aside_told : (w : p.Word) (k : Knowing) (ps : List Place) → word_within (is_one_of k.names) w ≡ true → (word_judged (judged k ps) w).places ≡ ps ++ word_unmet k.facts w
aside_told w k ps h = ap (λ (s : Judged). s.places) (word_told w k ps h)

patterns_told : (ws : p.Words) (k : Knowing) (ps : List Place) → words_within (is_one_of k.names) ws ≡ true
    → patterns_judged (judged k ps) ws ≡ judged k (ps ++ patterns_unmet k.facts ws)
unfolding patterns_judged words_within patterns_unmet
patterns_told p.no_words k ps h = ap (judged k) (sym (append-nil ps))
patterns_told (p.more_words w ws) k ps h =
    let both = and_parts (word_within (is_one_of k.names) w) (words_within (is_one_of k.names) ws) h in
    ap (λ qs. patterns_judged (judged k qs) ws) (aside_told w k ps both.0)
    ∙ patterns_told ws k (ps ++ word_unmet k.facts w) both.1
    ∙ ap (judged k) (append_assoc ps (word_unmet k.facts w) (patterns_unmet k.facts ws))

redirect_told : (r : p.Redirect) (k : Knowing) (ps : List Place) → redirect_within (is_one_of k.names) r ≡ true
    → redirect_judged (judged k ps) r ≡ judged (gained (redirect_gains r) k) (ps ++ redirect_unmet k.facts r)
unfolding redirect_judged redirect_within redirect_gains redirect_unmet
redirect_told (p.File w) k ps h = word_told w k ps h
redirect_told (p.Here w) k ps h = word_told w k ps h

redirects_told : (rs : p.Redirects) (k : Knowing) (ps : List Place) → redirects_within (is_one_of k.names) rs ≡ true
    → redirects_judged (judged k ps) rs ≡ judged (gained (redirects_gains rs) k) (ps ++ redirects_unmet k.facts rs)
unfolding redirects_judged redirects_within redirects_gains redirects_unmet gained
redirects_told p.no_redirects k ps h = still k ps
redirects_told (p.more_redirects r rs) k ps h =
    let both = and_parts (redirect_within (is_one_of k.names) r) (redirects_within (is_one_of k.names) rs) h in
    ap (λ s. redirects_judged s rs) (redirect_told r k ps both.0)
    ∙ redirects_told rs (gained (redirect_gains r) k) (ps ++ redirect_unmet k.facts r) both.1
    ∙ in_turn (redirect_gains r) (redirects_gains rs) k ps (redirect_unmet k.facts r) (λ f. redirects_unmet f rs) (redirect_pass (is_one_of k.names) r both.0)

-- simple commands: values and redirections by what is known after the words

told_beside : (g : Facts) (k : Knowing) (es : p.Elements) (ps one : List Place) (x : Judged) → x ≡ judged k (ps ++ one)
    → ((qs : List Place) → elements_judged (known_as k g) (judged k qs) es ≡ judged (gained (words_gains (operands_in es)) k) (qs ++ elements_unmet k.facts g es))
    → elements_judged (known_as k g) x es ≡ judged (gained (words_gains (operands_in es)) k) (ps ++ (one ++ elements_unmet k.facts g es))
told_beside g k es ps one x e rest =
    ap (λ s. elements_judged (known_as k g) s es) e ∙ rest (ps ++ one)
    ∙ ap (judged (gained (words_gains (operands_in es)) k)) (append_assoc ps one (elements_unmet k.facts g es))

elements_told : (g : Facts) (es : p.Elements) (k : Knowing) (ps : List Place) → elements_within (is_one_of k.names) es ≡ true
    → elements_judged (known_as k g) (judged k ps) es ≡ judged (gained (words_gains (operands_in es)) k) (ps ++ elements_unmet k.facts g es)
unfolding elements_judged elements_within words_gains operands_in elements_unmet gained
elements_told g p.no_elements k ps h = still k ps
elements_told g (p.assignment name value es) k ps h =
    let both = and_parts (word_within (is_one_of k.names) value) (elements_within (is_one_of k.names) es) h in
    told_beside g k es ps (word_unmet g value) (judged k (word_judged (judged (known_as k g) ps) value).places)
    (ap (judged k) (aside_told value (known_as k g) ps both.0)) (λ qs. elements_told g es k qs both.1)
elements_told g (p.operand w es) k ps h =
    let both = and_parts (word_within (is_one_of k.names) w) (elements_within (is_one_of k.names) es) h in
    ap (λ s. elements_judged (known_as k g) s es) (word_told w k ps both.0)
    ∙ elements_told g es (gained (word_gains w) k) (ps ++ word_unmet k.facts w) both.1
    ∙ in_turn (word_gains w) (words_gains (operands_in es)) k ps (word_unmet k.facts w) (λ f. elements_unmet f g es) (word_pass (is_one_of k.names) w both.0)
elements_told g (p.redirection r es) k ps h =
    let both = and_parts (redirect_within (is_one_of k.names) r) (elements_within (is_one_of k.names) es) h in
    told_beside g k es ps (redirect_unmet g r) (judged k (redirect_judged (judged (known_as k g) ps) r).places)
    (ap (λ (s : Judged). judged k s.places) (redirect_told r (known_as k g) ps both.0)) (λ qs. elements_told g es k qs both.1)

-- compound commands

clauses_told : (cs : p.Clauses) (k : Knowing) (ps : List Place) → clauses_within (is_one_of k.names) cs ≡ true
    → clauses_judged (judged k ps) cs ≡ judged k (ps ++ clauses_unmet k.facts cs)
unfolding clauses_judged clauses_within clauses_unmet
clauses_told p.no_clauses k ps h = ap (judged k) (sym (append-nil ps))
clauses_told (p.more_clauses patterns body end rest) k ps h =
    let both = and_parts (words_within (is_one_of k.names) patterns) (clauses_within (is_one_of k.names) rest) h in
    ap (λ s. clauses_judged s rest) (patterns_told patterns k ps both.0)
    ∙ clauses_told rest k (ps ++ patterns_unmet k.facts patterns) both.1
    ∙ ap (judged k) (append_assoc ps (patterns_unmet k.facts patterns) (clauses_unmet k.facts rest))

for_words_told : (ws : p.ForWords) (k : Knowing) (ps : List Place) → for_words_within (is_one_of k.names) ws ≡ true
    → (for_words_judged (judged k ps) ws).places ≡ ps ++ for_words_unmet k.facts ws
unfolding for_words_judged for_words_within for_words_unmet
for_words_told p.every_parameter k ps h = sym (append-nil ps)
for_words_told (p.listed ws) k ps h = ap (λ (s : Judged). s.places) (words_told ws k ps h)

kind_told : (x : p.Kind) (k : Knowing) (ps : List Place) → kind_within (is_one_of k.names) x ≡ true → (kind_judged (judged k ps) x).places ≡ ps ++ kind_unmet k.facts x
unfolding kind_judged kind_within kind_unmet gained
kind_told (p.Simple es) k ps h =
    let g = with_gains (words_gains (operands_in es)) k.facts in
    ap (λ j. (elements_judged j (judged k ps) es).places) (gained_whole (words_gains (operands_in es)) k (elements_pass (is_one_of k.names) es h))
    ∙ ap (λ (s : Judged). s.places) (elements_told g es k ps h)
kind_told (p.For name ws body) k ps h = for_words_told ws k ps h
kind_told (p.Case w cs) k ps h =
    let both = and_parts (word_within (is_one_of k.names) w) (clauses_within (is_one_of k.names) cs) h in
    ap (λ s. (clauses_judged s cs).places) (word_told w k ps both.0)
    ∙ ap (λ (s : Judged). s.places) (clauses_told cs (gained (word_gains w) k) (ps ++ word_unmet k.facts w) both.1)
    ∙ append_assoc ps (word_unmet k.facts w) (clauses_unmet (gained (word_gains w) k).facts cs)
    ∙ ap (λ f. ps ++ (word_unmet k.facts w ++ clauses_unmet f cs)) (facts_whole (word_gains w) k (word_pass (is_one_of k.names) w both.0))
kind_told _ k ps h = sym (append-nil ps)

-- a command's own words
pub own_told : (x : p.Kind) (rs : p.Redirects) (k : Knowing) (ps : List Place) → redirects_within (is_one_of k.names) rs ≡ true → kind_within (is_one_of k.names) x ≡ true
    → own_places k ps x rs ≡ ps ++ (redirects_unmet k.facts rs ++ kind_unmet (with_gains (redirects_gains rs) k.facts) x)
unfolding gained
own_told x rs k ps h i =
    ap (λ s. (kind_judged s x).places) (redirects_told rs k ps h)
    ∙ kind_told x (gained (redirects_gains rs) k) (ps ++ redirects_unmet k.facts rs) i
    ∙ append_assoc ps (redirects_unmet k.facts rs) (kind_unmet (gained (redirects_gains rs) k).facts x)
    ∙ ap (λ f. ps ++ (redirects_unmet k.facts rs ++ kind_unmet f x)) (facts_whole (redirects_gains rs) k (redirects_pass (is_one_of k.names) rs h))

pub own_tells : OwnTells
own_tells = record { own = own_told }
