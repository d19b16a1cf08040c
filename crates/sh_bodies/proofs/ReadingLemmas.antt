-- What is read with the bodies of a level is what is read without them, filled.
use Rattle.std.proofs.Common.{◌≡◌, ℕ, zero, suc, ◌+◌, Bool, false, List, [], ◌∷◌, length, map, drop, true, codes, Option, Some, None, refl, sym, ap, subst, ◌∙◌}
use Rattle.sh_bodies.specs.declared.Document.{Document}
use Rattle.sh_tree.specs.declared.token.command.Lead.{Lead}
use Rattle.sh_tree.specs.declared.token.command.Stage.{Stage}
use Rattle.sh_tree.specs.declared.tree.AndOr.{AndOr}
use Rattle.sh_tree.specs.declared.tree.Branch.{Branch}
use Rattle.sh_tree.specs.declared.tree.Clause.{Clause}
use Rattle.sh_tree.specs.declared.tree.ClauseEnd.{ClauseEnd}
use Rattle.sh_tree.specs.declared.tree.ClauseEnd.TheVariants.{Break}
use Rattle.sh_tree.specs.declared.tree.Command.{Command}
use Rattle.sh_tree.specs.declared.tree.Element.{Element}
use Rattle.sh_tree.specs.declared.tree.Element.TheVariants as element
use Rattle.sh_tree.specs.declared.tree.Item.{Item}
use Rattle.sh_tree.specs.declared.tree.Kind.{Kind}
use Rattle.sh_tree.specs.declared.tree.Kind.TheVariants as kind
use Rattle.sh_tree.specs.declared.tree.Link.{Link}
use Rattle.sh_tree.specs.declared.tree.LoopKind.{LoopKind}
use Rattle.sh_tree.specs.declared.tree.LoopKind.TheVariants as loop
use Rattle.sh_tree.specs.declared.tree.Pipe.{Pipe}
use Rattle.sh_tree.specs.declared.tree.Redirect.{Redirect}
use Rattle.sh_tree.specs.declared.tree.Script.{Script}
use Rattle.sh_tree.specs.declared.tree.Span.{Span}
use Rattle.sh_tree.specs.declared.tree.Target.{Target}
use Rattle.sh_tree.specs.declared.tree.Target.TheVariants.{File, Here}
use Rattle.sh_tree.specs.declared.tree.Word.{Word}
use Rattle.sh_tree.specs.standard.language.Reading as r
use Rattle.sh_tree.specs.standard.language.Reading.{ReadsRedirect, ReadsRedirects, ReadsElements, ReadsCommand, ReadsCompound, ReadsDo, ReadsBranches, ReadsElse, ReadsClauses, ReadsPipeline, ReadsCommands, ReadsAndOr, ReadsLinks, ReadsItems, ReadsList, ReadsSequence, behind_token, is_empty}
use Rattle.sh_tree.specs.standard.language.Commands.{name_end}
use Rattle.sh_tree.specs.standard.language.States as states
use Rattle.sh_tree.specs.standard.language.States.{State, closing, document_count, no_document, nth}
use Rattle.sh_tree.specs.standard.language.Trees as tree
use Rattle.sh_bodies.specs.Fill.{Filled, document_of, thread, fill_target, fill_redirect, fill_element, fill_script, fill_item, fill_and_or, fill_link, fill_pipe, fill_command, fill_kind, fill_branch, fill_otherwise, fill_clause}
use Rattle.sh_bodies.proofs.CountLemmas.{one_waits, breaks_kept, parted_kept, for_words_kept, patterns_kept}
use Rattle.sh_bodies.proofs.FillLemmas.{script_filled, item_filled, and_or_filled, pipe_filled, command_filled, branch_filled, clause_filled, fill_Simple, fill_Group, fill_Subshell, fill_Cond, fill_Loop, fill_For, fill_Branches, fill_Define, fill_File, fill_Here, fill_none, fill_Assignment, fill_Word, fill_Redirection}

-- the bodies of a level
abbrev pub bodies : List Document → ℕ → states.Document
bodies all = nth (map document_of all)

-- what is read without bodies: filling makes y of it, with the bodies from the n-th to the m-th
pub record From {A : Type 0} (R : A → Type 0) (fill : List Document → A → Filled A) (all : List Document) (n m : ℕ) (y : A) : Type 0 where
  pub bare : A
  pub reads : R bare
  pub fills : fill (drop n all) bare ≡ (y, drop m all)

-- Over plain variables

-- one more of a list
threaded : {A : Type 0} (f : List Document → A → Filled A) (ds mid rest : List Document) (x y : A) (xs ys : List A) → f ds x ≡ (y, mid) → thread f mid xs ≡ (ys, rest)
    → thread f ds (x ∷ xs) ≡ (y ∷ ys, rest)
unfolding thread
threaded {A = A} f ds mid rest x y xs ys first more = ap (λ r. (r.0 ∷ (thread f r.1 xs).0, (thread f r.1 xs).1)) first ∙ ap (λ (r : Filled (List A)). (y ∷ r.0, r.1)) more

-- the list that comes of one is empty as it is
thread_empty : {A : Type 0} (f : List Document → A → Filled A) (ds rest : List Document) (xs ys : List A) → thread f ds xs ≡ (ys, rest) → is_empty xs ≡ is_empty ys
unfolding thread is_empty
thread_empty {A = A} f ds rest [] ys e = ap (λ (r : Filled (List A)). is_empty r.0) e
thread_empty {A = A} f ds rest (x ∷ xs) ys e = ap (λ (r : Filled (List A)). is_empty r.0) e

-- the operator n takes the body n
here_filled : (all : List Document) (n : ℕ) (strip : Bool) (w : Word)
    → fill_target (drop n all) (Here (tree.here_doc strip w no_document.text no_document.end)) ≡ (Here (tree.here_doc strip w (bodies all n).text (bodies all n).end), drop (suc n) all)
unfolding nth
here_filled [] zero strip w = fill_none (tree.here_doc strip w no_document.text no_document.end)
here_filled [] (suc n) strip w = fill_none (tree.here_doc strip w no_document.text no_document.end)
here_filled (d ∷ ds) zero strip w = fill_Here d ds (tree.here_doc strip w no_document.text no_document.end)
here_filled (d ∷ ds) (suc n) strip w = here_filled ds n strip w

redirected : (ds rest : List Document) (at : ℕ) (number : Option Span) (t u : Target) → fill_target ds t ≡ (u, rest) → fill_redirect ds (tree.redirect at number t) ≡ (tree.redirect at number u, rest)
redirected ds rest at number t u e = ap (λ (r : Filled Target). (tree.redirect at number r.0, r.1)) e

commanded : (ds mid rest : List Document) (number at : ℕ) (k l : Kind) (rs qs : List Redirect) → fill_kind ds k ≡ (l, mid) → thread fill_redirect mid rs ≡ (qs, rest)
    → fill_command ds (tree.command number at k rs) ≡ (tree.command number at l qs, rest)
commanded ds mid rest number at k l rs qs first more =
    command_filled ds number at k rs ∙ ap (λ (r : Filled Kind). (tree.command number at r.0 (thread fill_redirect r.1 rs).0, (thread fill_redirect r.1 rs).1)) first
    ∙ ap (λ (r : Filled (List Redirect)). (tree.command number at l r.0, r.1)) more

no_redirects : (ds : List Document) → thread fill_redirect ds [] ≡ ([], ds)
unfolding thread
no_redirects ds = refl

simple : (ds rest : List Document) (es fs : List Element) → thread fill_element ds es ≡ (fs, rest) → fill_kind ds (kind.Simple es) ≡ (kind.Simple fs, rest)
simple ds rest es fs e = fill_Simple ds es ∙ ap (λ (r : Filled (List Element)). (kind.Simple r.0, r.1)) e

looped : (ds mid rest : List Document) (l : LoopKind) (c d t u : Script) → fill_script ds c ≡ (d, mid) → fill_script mid t ≡ (u, rest) → fill_kind ds (kind.Loop l c t) ≡ (kind.Loop l d u, rest)
looped ds mid rest l c d t u first more =
    fill_Loop ds l c t ∙ ap (λ (r : Filled Script). (kind.Loop l r.0 (fill_script r.1 t).0, (fill_script r.1 t).1)) first ∙ ap (λ (r : Filled Script). (kind.Loop l d r.0, r.1)) more

-- the branches of `if` and its `else` part
abbrev branched : List Document → List Branch → Option Script → Filled (List Branch × Option Script)
branched ds bs o = (((thread fill_branch ds bs).0, (fill_otherwise (thread fill_branch ds bs).1 o).0), (fill_otherwise (thread fill_branch ds bs).1 o).1)

conditioned : (ds rest : List Document) (bs cs : List Branch) (o p : Option Script) → branched ds bs o ≡ ((cs, p), rest) → fill_kind ds (kind.Cond bs o) ≡ (kind.Cond cs p, rest)
conditioned ds rest bs cs o p e = fill_Cond ds bs o ∙ ap (λ (r : Filled (List Branch × Option Script)). (kind.Cond r.0.0 r.0.1, r.1)) e

-- a branch before others
one_branch : (ds inside mid rest : List Document) (c d t u : Script) (bs cs : List Branch) (o p : Option Script) → fill_script ds c ≡ (d, inside) → fill_script inside t ≡ (u, mid)
    → branched mid bs o ≡ ((cs, p), rest) → branched ds (tree.branch c t ∷ bs) o ≡ ((tree.branch d u ∷ cs, p), rest)
unfolding thread
one_branch ds inside mid rest c d t u bs cs o p first body more =
    let one : fill_branch ds (tree.branch c t) ≡ (tree.branch d u, mid) =
    branch_filled ds c t ∙ ap (λ (r : Filled Script). (tree.branch r.0 (fill_script r.1 t).0, (fill_script r.1 t).1)) first ∙ ap (λ (r : Filled Script). (tree.branch d r.0, r.1)) body in
    ap (λ (r : Filled Branch). ((r.0 ∷ (thread fill_branch r.1 bs).0, (fill_otherwise (thread fill_branch r.1 bs).1 o).0), (fill_otherwise (thread fill_branch r.1 bs).1 o).1)) one
    ∙ ap (λ (r : Filled (List Branch × Option Script)). ((tree.branch d u ∷ r.0.0, r.0.1), r.1)) more

no_branches : (ds : List Document) → branched ds [] None ≡ (([], None), ds)
unfolding thread
no_branches ds = refl

last_branch : (ds rest : List Document) (t u : Script) → fill_script ds t ≡ (u, rest) → branched ds [] (Some t) ≡ (([], Some u), rest)
unfolding thread
last_branch ds rest t u e = ap (λ (r : Filled Script). (([], Some r.0), r.1)) e

claused : (ds rest : List Document) (ws : List Word) (t u : Script) (e : ClauseEnd) → fill_script ds t ≡ (u, rest) → fill_clause ds (tree.clause ws t e) ≡ (tree.clause ws u e, rest)
claused ds rest ws t u e h = clause_filled ds ws t e ∙ ap (λ (r : Filled Script). (tree.clause ws r.0 e, r.1)) h

piped : (ds rest : List Document) (negated : Bool) (cs es : List Command) → thread fill_command ds cs ≡ (es, rest) → fill_pipe ds (tree.pipe negated cs) ≡ (tree.pipe negated es, rest)
piped ds rest negated cs es e = pipe_filled ds negated cs ∙ ap (λ (r : Filled (List Command)). (tree.pipe negated r.0, r.1)) e

linked : (ds mid rest : List Document) (p q : Pipe) (ps qs : List (Link × Pipe)) → fill_pipe ds p ≡ (q, mid) → thread fill_link mid ps ≡ (qs, rest)
    → fill_and_or ds (tree.and_or p ps) ≡ (tree.and_or q qs, rest)
linked ds mid rest p q ps qs first more =
    and_or_filled ds p ps ∙ ap (λ (r : Filled Pipe). (tree.and_or r.0 (thread fill_link r.1 ps).0, (thread fill_link r.1 ps).1)) first
    ∙ ap (λ (r : Filled (List (Link × Pipe))). (tree.and_or q r.0, r.1)) more

item_of : (ds rest : List Document) (l m : AndOr) (g : Bool) → fill_and_or ds l ≡ (m, rest) → fill_item ds (tree.item l g) ≡ (tree.item m g, rest)
item_of ds rest l m g e = item_filled ds l g ∙ ap (λ (r : Filled AndOr). (tree.item r.0 g, r.1)) e

scripted : (ds rest : List Document) (is js : List Item) → thread fill_item ds is ≡ (js, rest) → fill_script ds (tree.script is) ≡ (tree.script js, rest)
scripted ds rest is js e = script_filled ds is ∙ ap (λ (r : Filled (List Item)). (tree.script r.0, r.1)) e

none_left : {A : Type 0} (f : List Document → A → Filled A) (ds : List Document) → thread f ds [] ≡ ([], ds)
unfolding thread
none_left f ds = refl

-- the same from the k-th body on
shifted : {A : Type 0} (all : List Document) (f : List Document → A → Filled A) (x y : A) (m k : ℕ) (rest : List Document) → m ≡ k → f (drop m all) x ≡ (y, rest) → f (drop k all) x ≡ (y, rest)
shifted all f x y m k rest e h = subst (λ i. f (drop i all) x ≡ (y, rest)) e h

here_from : (all : List Document) (n m : ℕ) (body : ℕ → states.Document) (at : ℕ) (number : Option Span) (strip : Bool) (w : Word) → body ≡ bodies all → m ≡ suc n
    → fill_redirect (drop n all) (tree.redirect at number (Here (tree.here_doc strip w no_document.text no_document.end))) ≡ (tree.redirect at number (Here (tree.here_doc strip w (body n).text (body n).end)), drop m all)
here_from all n m body at number strip w is more =
    redirected (drop n all) (drop m all) at number (Here (tree.here_doc strip w no_document.text no_document.end)) (Here (tree.here_doc strip w (body n).text (body n).end))
    (here_filled all n strip w ∙ ap (λ (d : states.Document). (Here (tree.here_doc strip w d.text d.end), drop (suc n) all)) (sym (ap (λ (f : ℕ → states.Document). f n) is))
    ∙ ap (λ k. (Here (tree.here_doc strip w (body n).text (body n).end), drop k all)) (sym more))

abbrev fill_branched : List Document → List Branch × Option Script → Filled (List Branch × Option Script)
fill_branched ds x = branched ds x.0 x.1

-- Readings

-- how many operators have come
abbrev n : State → ℕ
n s = document_count s

module _ (all : List Document) where
  mutual
    unfolding is_empty nth

    redirect_from : {limit : ℕ} {b : List ℕ} {body : ℕ → states.Document} {s v : State} {q : Redirect} → body ≡ bodies all → ReadsRedirect limit b body s v q
        → From (ReadsRedirect limit b (nth []) s v) fill_redirect all (n s) (n v) q
    redirect_from {s = s} e (r.file {r = at} {d = d} {w = w} h o l k) =
        record { bare = tree.redirect at.at at.number (File d w); reads = r.file h o l k; fills = redirected (drop (n s) all) (drop (n s) all) at.at at.number (File d w) (File d w) (fill_File (drop (n s) all) d w) }
    redirect_from {body = body} {s = s} e (r.here_document {r = at} {strip = strip} {w = w} h o l k d) = record {
      bare = tree.redirect at.at at.number (Here (tree.here_doc strip w no_document.text no_document.end));
      reads = r.here_document h o l k d;
      fills = here_from all (n s) _ body at.at at.number strip w e (one_waits (length s.bodies) s.pending _);
    }

    redirects_from : {limit : ℕ} {b : List ℕ} {body : ℕ → states.Document} {s v : State} {qs : List Redirect} → body ≡ bodies all → ReadsRedirects limit b body s v qs
        → From (ReadsRedirects limit b (nth []) s v) (thread fill_redirect) all (n s) (n v) qs
    redirects_from {s = s} e (r.no_redirect h) = record { bare = []; reads = r.no_redirect h; fills = none_left fill_redirect (drop (n s) all) }
    redirects_from {s = s} {v = v} e (r.more_redirects {u = u} {r = q} {rs = qs} h k l) =
        let f = redirect_from e k in
        let g = redirects_from e l in
        record { bare = f.bare ∷ g.bare; reads = r.more_redirects h f.reads g.reads; fills = threaded fill_redirect (drop (n s) all) (drop (n u) all) (drop (n v) all) f.bare q g.bare qs f.fills g.fills }

    elements_from : {limit : ℕ} {b : List ℕ} {body : ℕ → states.Document} {g : Stage} {s v : State} {es : List Element} → body ≡ bodies all → ReadsElements limit b body g s v es
        → From (ReadsElements limit b (nth []) g s v) (thread fill_element) all (n s) (n v) es
    elements_from {s = s} e (r.no_element h) = record { bare = []; reads = r.no_element h; fills = none_left fill_element (drop (n s) all) }
    elements_from {b = b} {s = s} {v = v} e (r.assigned_element {w = w} {es = es} h k l) =
        let f = elements_from e l in
        let x = element.Assignment (tree.span s.spot.at (name_end b s.spot.at)) w in
        record {
          bare = x ∷ f.bare;
          reads = r.assigned_element h k f.reads;
          fills = threaded fill_element (drop (n s) all) (drop (n s) all) (drop (n v) all) x x f.bare es (fill_Assignment (drop (n s) all) (tree.span s.spot.at (name_end b s.spot.at)) w) f.fills;
        }
    elements_from {s = s} {v = v} e (r.word_element {w = w} {es = es} h k l) =
        let f = elements_from e l in
        record {
          bare = element.Word w ∷ f.bare;
          reads = r.word_element h k f.reads;
          fills = threaded fill_element (drop (n s) all) (drop (n s) all) (drop (n v) all) (element.Word w) (element.Word w) f.bare es (fill_Word (drop (n s) all) w) f.fills;
        }
    elements_from {s = s} {v = v} e (r.redirect_element {u = u} {r = q} {es = es} h k l) =
        let f = redirect_from e k in
        let g = elements_from e l in
        let one : fill_element (drop (n s) all) (element.Redirection f.bare) ≡ (element.Redirection q, drop (n u) all) =
        fill_Redirection (drop (n s) all) f.bare ∙ ap (λ (x : Filled Redirect). (element.Redirection x.0, x.1)) f.fills in
        record {
          bare = element.Redirection f.bare ∷ g.bare;
          reads = r.redirect_element h f.reads g.reads;
          fills = threaded fill_element (drop (n s) all) (drop (n u) all) (drop (n v) all) (element.Redirection f.bare) (element.Redirection q) g.bare es one g.fills;
        }

    command_from : {limit : ℕ} {b : List ℕ} {body : ℕ → states.Document} {s v : State} {c : Command} → body ≡ bodies all → ReadsCommand limit b body s v c
        → From (ReadsCommand limit b (nth []) s v) fill_command all (n s) (n v) c
    command_from {s = s} e (r.simple_command {u = u} {es = es} h l) =
        let f = elements_from e l in
        record {
          bare = tree.command (s.spot.count + 1) s.spot.at (kind.Simple f.bare) [];
          reads = r.simple_command h f.reads;
          fills = commanded (drop (n s) all) (drop (n u) all) (drop (n u) all) (s.spot.count + 1) s.spot.at (kind.Simple f.bare) (kind.Simple es) [] []
              (simple (drop (n s) all) (drop (n u) all) f.bare es f.fills) (no_redirects (drop (n u) all));
        }
    command_from {limit = limit} {b = b} {s = s} e (r.compound_command {u = u} {v = w} {k = k} {rs = rs} h c l) =
        let f = compound_from e c in
        let g = redirects_from e l in
        let d = tree.command (s.spot.count + 1) s.spot.at f.bare g.bare in
        let closed = thread_empty fill_redirect (drop (n u) all) (drop (n w) all) g.bare rs g.fills in
        record {
          bare = d;
          reads = subst (λ i. ReadsCommand limit b (nth []) s (closing i w) d) closed (r.compound_command h f.reads g.reads);
          fills = commanded (drop (n s) all) (drop (n u) all) (drop (n w) all) (s.spot.count + 1) s.spot.at f.bare k g.bare rs f.fills g.fills;
        }
    command_from {b = b} {s = s} {v = v} e (r.definition {u = u} {c = c} h o p k i l) =
        let f = command_from e l in
        let name = tree.span s.spot.at (name_end b s.spot.at) in
        let filled = shifted all fill_command f.bare c (n u) (n s) (drop (n v) all) (breaks_kept k) f.fills in
        record {
          bare = tree.command (s.spot.count + 1) s.spot.at (kind.Define name f.bare) [];
          reads = r.definition h o p k i f.reads;
          fills = commanded (drop (n s) all) (drop (n v) all) (drop (n v) all) (s.spot.count + 1) s.spot.at (kind.Define name f.bare) (kind.Define name c) [] []
              (fill_Define (drop (n s) all) name f.bare ∙ ap (λ (x : Filled Command). (kind.Define name x.0, x.1)) filled) (no_redirects (drop (n v) all));
        }

    compound_from : {limit : ℕ} {b : List ℕ} {body : ℕ → states.Document} {l : Lead} {s v : State} {k : Kind} → body ≡ bodies all → ReadsCompound limit b body l s v k
        → From (ReadsCompound limit b (nth []) l s v) fill_kind all (n s) (n v) k
    compound_from {s = s} e (r.group d h k) =
        let f = list_from e h in
        record { bare = kind.Group f.bare; reads = r.group d f.reads k; fills = fill_Group (drop (n s) all) f.bare ∙ ap (λ (x : Filled Script). (kind.Group x.0, x.1)) f.fills }
    compound_from {s = s} e (r.subshell d h k) =
        let f = list_from e h in
        record { bare = kind.Subshell f.bare; reads = r.subshell d f.reads k; fills = fill_Subshell (drop (n s) all) f.bare ∙ ap (λ (x : Filled Script). (kind.Subshell x.0, x.1)) f.fills }
    compound_from {s = s} e (r.cond {u = u} {bs = bs} {o = o} d h) =
        let f = branches_from e h in
        record { bare = kind.Cond f.bare.0 f.bare.1; reads = r.cond d f.reads; fills = conditioned (drop (n s) all) (drop (n u) all) f.bare.0 bs f.bare.1 o f.fills }
    compound_from {s = s} e (r.while_loop {u = u} {v = v} {c = c} {t = t} d h g) =
        let f = list_from e h in
        let i = do_from e g in
        record {
          bare = kind.Loop loop.While f.bare i.bare;
          reads = r.while_loop d f.reads i.reads;
          fills = looped (drop (n s) all) (drop (n u) all) (drop (n v) all) loop.While f.bare c i.bare t f.fills i.fills;
        }
    compound_from {s = s} e (r.until_loop {u = u} {v = v} {c = c} {t = t} d h g) =
        let f = list_from e h in
        let i = do_from e g in
        record {
          bare = kind.Loop loop.Until f.bare i.bare;
          reads = r.until_loop d f.reads i.reads;
          fills = looped (drop (n s) all) (drop (n u) all) (drop (n v) all) loop.Until f.bare c i.bare t f.fills i.fills;
        }
    compound_from {b = b} {s = s} e (r.for_loop {u = u} {v = v} {o = o} {t = t} d h w g) =
        let i = do_from e g in
        let name = tree.span (behind_token b (codes "for") s).spot.at (name_end b (behind_token b (codes "for") s).spot.at) in
        let filled = shifted all fill_script i.bare t (n u) (n s) (drop (n v) all) (for_words_kept w) i.fills in
        record { bare = kind.For name o i.bare; reads = r.for_loop d h w i.reads; fills = fill_For (drop (n s) all) name o i.bare ∙ ap (λ (x : Filled Script). (kind.For name o x.0, x.1)) filled }
    compound_from {s = s} e (r.case_of {q = q} {v = v} {w = w} {cs = cs} d i k h j g c) =
        let f = clauses_from e c in
        let filled = shifted all (thread fill_clause) f.bare cs (n q) (n s) (drop (n v) all) (breaks_kept g ∙ breaks_kept h) f.fills in
        record { bare = kind.Branches w f.bare; reads = r.case_of d i k h j g f.reads; fills = fill_Branches (drop (n s) all) w f.bare ∙ ap (λ (x : Filled (List Clause)). (kind.Branches w x.0, x.1)) filled }

    do_from : {limit : ℕ} {b : List ℕ} {body : ℕ → states.Document} {s v : State} {t : Script} → body ≡ bodies all → ReadsDo limit b body s v t
        → From (ReadsDo limit b (nth []) s v) fill_script all (n s) (n v) t
    do_from e (r.do_group h l d) = let f = list_from e l in record { bare = f.bare; reads = r.do_group h f.reads d; fills = f.fills }

    branches_from : {limit : ℕ} {b : List ℕ} {body : ℕ → states.Document} {s v : State} {bs : List Branch} {o : Option Script} → body ≡ bodies all → ReadsBranches limit b body s v bs o
        → From (λ (x : List Branch × Option Script). ReadsBranches limit b (nth []) s v x.0 x.1) fill_branched all (n s) (n v) (bs, o)
    branches_from {s = s} e (r.branch {u = u} {v = v} {w = w} {c = c} {t = t} {bs = bs} {o = o} h k l i) =
        let f = list_from e h in
        let g = list_from e l in
        let j = else_from e i in
        record {
          bare = (tree.branch f.bare g.bare ∷ j.bare.0, j.bare.1);
          reads = r.branch f.reads k g.reads j.reads;
          fills = one_branch (drop (n s) all) (drop (n u) all) (drop (n v) all) (drop (n w) all) f.bare c g.bare t j.bare.0 bs j.bare.1 o f.fills g.fills j.fills;
        }

    else_from : {limit : ℕ} {b : List ℕ} {body : ℕ → states.Document} {s v : State} {bs : List Branch} {o : Option Script} → body ≡ bodies all → ReadsElse limit b body s v bs o
        → From (λ (x : List Branch × Option Script). ReadsElse limit b (nth []) s v x.0 x.1) fill_branched all (n s) (n v) (bs, o)
    else_from {s = s} e (r.fi h) = record { bare = ([], None); reads = r.fi h; fills = no_branches (drop (n s) all) }
    else_from {s = s} e (r.otherwise {u = u} {t = t} h l k) =
        let f = list_from e l in
        record { bare = ([], Some f.bare); reads = r.otherwise h f.reads k; fills = last_branch (drop (n s) all) (drop (n u) all) f.bare t f.fills }
    else_from e (r.elif h l) = let f = branches_from e l in record { bare = f.bare; reads = r.elif h f.reads; fills = f.fills }

    clauses_from : {limit : ℕ} {b : List ℕ} {body : ℕ → states.Document} {s v : State} {cs : List Clause} → body ≡ bodies all → ReadsClauses limit b body s v cs
        → From (ReadsClauses limit b (nth []) s v) (thread fill_clause) all (n s) (n v) cs
    clauses_from {s = s} e (r.esac h) = record { bare = []; reads = r.esac h; fills = none_left fill_clause (drop (n s) all) }
    clauses_from {s = s} e (r.last_clause {u = u} {v = v} {ws = ws} {t = t} h ps l k) =
        let f = sequence_from e l in
        let filled = shifted all fill_script f.bare t (n u) (n s) (drop (n v) all) (patterns_kept s ps) f.fills in
        record {
          bare = tree.clause ws f.bare Break ∷ [];
          reads = r.last_clause h ps f.reads k;
          fills = threaded fill_clause (drop (n s) all) (drop (n v) all) (drop (n v) all) (tree.clause ws f.bare Break) (tree.clause ws t Break) [] []
              (claused (drop (n s) all) (drop (n v) all) ws f.bare t Break filled) (none_left fill_clause (drop (n v) all));
        }
    clauses_from {s = s} e (r.more_clauses {u = u} {v = v} {w = w} {z = z} {ws = ws} {t = t} {e = c} {cs = cs} h ps l i k m) =
        let f = sequence_from e l in
        let g = clauses_from e m in
        let filled = shifted all fill_script f.bare t (n u) (n s) (drop (n v) all) (patterns_kept s ps) f.fills in
        record {
          bare = tree.clause ws f.bare c ∷ g.bare;
          reads = r.more_clauses h ps f.reads i k g.reads;
          fills = threaded fill_clause (drop (n s) all) (drop (n v) all) (drop (n z) all) (tree.clause ws f.bare c) (tree.clause ws t c) g.bare cs
              (claused (drop (n s) all) (drop (n v) all) ws f.bare t c filled) (shifted all (thread fill_clause) g.bare cs (n w) (n v) (drop (n z) all) (breaks_kept k) g.fills);
        }

    pipeline_from : {limit : ℕ} {b : List ℕ} {body : ℕ → states.Document} {s v : State} {p : Pipe} → body ≡ bodies all → ReadsPipeline limit b body s v p
        → From (ReadsPipeline limit b (nth []) s v) fill_pipe all (n s) (n v) p
    pipeline_from {s = s} {v = v} e (r.negated {cs = cs} h l) =
        let f = commands_from e l in
        record { bare = tree.pipe true f.bare; reads = r.negated h f.reads; fills = piped (drop (n s) all) (drop (n v) all) true f.bare cs f.fills }
    pipeline_from {s = s} {v = v} e (r.straight {cs = cs} h l) =
        let f = commands_from e l in
        record { bare = tree.pipe false f.bare; reads = r.straight h f.reads; fills = piped (drop (n s) all) (drop (n v) all) false f.bare cs f.fills }

    commands_from : {limit : ℕ} {b : List ℕ} {body : ℕ → states.Document} {s v : State} {cs : List Command} → body ≡ bodies all → ReadsCommands limit b body s v cs
        → From (ReadsCommands limit b (nth []) s v) (thread fill_command) all (n s) (n v) cs
    commands_from {s = s} {v = v} e (r.last_command {c = c} h bar) =
        let f = command_from e h in
        record {
          bare = f.bare ∷ [];
          reads = r.last_command f.reads bar;
          fills = threaded fill_command (drop (n s) all) (drop (n v) all) (drop (n v) all) f.bare c [] [] f.fills (none_left fill_command (drop (n v) all));
        }
    commands_from {s = s} e (r.more_commands {u = u} {v = v} {w = w} {c = c} {cs = cs} h bar k l) =
        let f = command_from e h in
        let g = commands_from e l in
        record {
          bare = f.bare ∷ g.bare;
          reads = r.more_commands f.reads bar k g.reads;
          fills = threaded fill_command (drop (n s) all) (drop (n u) all) (drop (n w) all) f.bare c g.bare cs f.fills
              (shifted all (thread fill_command) g.bare cs (n v) (n u) (drop (n w) all) (breaks_kept k) g.fills);
        }

    and_or_from : {limit : ℕ} {b : List ℕ} {body : ℕ → states.Document} {s v : State} {l : AndOr} → body ≡ bodies all → ReadsAndOr limit b body s v l
        → From (ReadsAndOr limit b (nth []) s v) fill_and_or all (n s) (n v) l
    and_or_from {s = s} {v = v} e (r.linked {u = u} {p = p} {ps = ps} h l) =
        let f = pipeline_from e h in
        let g = links_from e l in
        record { bare = tree.and_or f.bare g.bare; reads = r.linked f.reads g.reads; fills = linked (drop (n s) all) (drop (n u) all) (drop (n v) all) f.bare p g.bare ps f.fills g.fills }

    links_from : {limit : ℕ} {b : List ℕ} {body : ℕ → states.Document} {s v : State} {ps : List (Link × Pipe)} → body ≡ bodies all → ReadsLinks limit b body s v ps
        → From (ReadsLinks limit b (nth []) s v) (thread fill_link) all (n s) (n v) ps
    links_from {s = s} e (r.no_link h) = record { bare = []; reads = r.no_link h; fills = none_left fill_link (drop (n s) all) }
    links_from {s = s} e (r.more_links {u = u} {v = v} {w = w} {l = k} {p = p} {ps = ps} h j i l) =
        let f = pipeline_from e i in
        let g = links_from e l in
        let filled = shifted all fill_pipe f.bare p (n u) (n s) (drop (n v) all) (breaks_kept j) f.fills in
        record {
          bare = (k, f.bare) ∷ g.bare;
          reads = r.more_links h j f.reads g.reads;
          fills = threaded fill_link (drop (n s) all) (drop (n v) all) (drop (n w) all) (k, f.bare) (k, p) g.bare ps (ap (λ (x : Filled Pipe). ((k, x.0), x.1)) filled) g.fills;
        }

    items_from : {limit : ℕ} {b : List ℕ} {body : ℕ → states.Document} {s v : State} {is : List Item} → body ≡ bodies all → ReadsItems limit b body s v is
        → From (ReadsItems limit b (nth []) s v) (thread fill_item) all (n s) (n v) is
    items_from {s = s} e (r.last_item {u = u} {l = l} h k j) =
        let f = and_or_from e h in
        record {
          bare = tree.item f.bare false ∷ [];
          reads = r.last_item f.reads k j;
          fills = threaded fill_item (drop (n s) all) (drop (n u) all) (drop (n u) all) (tree.item f.bare false) (tree.item l false) [] []
              (item_of (drop (n s) all) (drop (n u) all) f.bare l false f.fills) (none_left fill_item (drop (n u) all));
        }
    items_from {b = b} {s = s} e (r.ended_item {u = u} {v = v} {l = l} {g = g} h k j i) =
        let f = and_or_from e h in
        let same : n v ≡ n u = breaks_kept j ∙ parted_kept b u in
        record {
          bare = tree.item f.bare g ∷ [];
          reads = r.ended_item f.reads k j i;
          fills = threaded fill_item (drop (n s) all) (drop (n u) all) (drop (n v) all) (tree.item f.bare g) (tree.item l g) [] []
              (item_of (drop (n s) all) (drop (n u) all) f.bare l g f.fills) (none_left fill_item (drop (n u) all) ∙ ap (λ m. ([], drop m all)) (sym same));
        }
    items_from {b = b} {s = s} e (r.more_items {u = u} {v = v} {w = w} {l = l} {g = g} {is = is} h k j i m) =
        let f = and_or_from e h in
        let o = items_from e m in
        let same : n v ≡ n u = breaks_kept j ∙ parted_kept b u in
        record {
          bare = tree.item f.bare g ∷ o.bare;
          reads = r.more_items f.reads k j i o.reads;
          fills = threaded fill_item (drop (n s) all) (drop (n u) all) (drop (n w) all) (tree.item f.bare g) (tree.item l g) o.bare is
              (item_of (drop (n s) all) (drop (n u) all) f.bare l g f.fills) (shifted all (thread fill_item) o.bare is (n v) (n u) (drop (n w) all) same o.fills);
        }

    list_from : {limit : ℕ} {b : List ℕ} {body : ℕ → states.Document} {s v : State} {t : Script} → body ≡ bodies all → ReadsList limit b body s v t
        → From (ReadsList limit b (nth []) s v) fill_script all (n s) (n v) t
    list_from {s = s} e (r.list {u = u} {v = v} {is = is} k h i) =
        let f = items_from e i in
        record {
          bare = tree.script f.bare;
          reads = r.list k h f.reads;
          fills = scripted (drop (n s) all) (drop (n v) all) f.bare is (shifted all (thread fill_item) f.bare is (n u) (n s) (drop (n v) all) (breaks_kept k) f.fills);
        }

    pub sequence_from : {limit : ℕ} {b : List ℕ} {body : ℕ → states.Document} {s v : State} {t : Script} → body ≡ bodies all → ReadsSequence limit b body s v t
        → From (ReadsSequence limit b (nth []) s v) fill_script all (n s) (n v) t
    sequence_from {s = s} e (r.nothing {u = u} k h) = record {
      bare = tree.script [];
      reads = r.nothing k h;
      fills = scripted (drop (n s) all) (drop (n u) all) [] [] (none_left fill_item (drop (n s) all) ∙ ap (λ m. ([], drop m all)) (sym (breaks_kept k)));
    }
    sequence_from e (r.sequence l) = let f = list_from e l in record { bare = f.bare; reads = r.sequence f.reads; fills = f.fills }
