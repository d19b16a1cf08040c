-- Printed compound commands are read, given that the lists in them are.
use Rattle.std.proofs.Common.{◌≡◌, ℕ, ◌+◌, ◌<◌, Bool, true, false, Option, Some, None, List, [], ◌∷◌, ◌++◌, length, drop, codes, refl, sym, ap, subst, ◌∙◌, append_assoc, append-nil, arith}
use Rattle.sh_tree.specs.declared.tree.Branch.{Branch}
use Rattle.sh_tree.specs.declared.tree.Kind.{Kind}
use Rattle.sh_tree.specs.declared.tree.Kind.TheVariants as kind
use Rattle.sh_tree.specs.declared.tree.LoopKind.{LoopKind}
use Rattle.sh_tree.specs.declared.tree.LoopKind.TheVariants as loop
use Rattle.sh_tree.specs.declared.tree.Script.{Script}
use Rattle.sh_tree.specs.declared.token.command.Lead.{Lead}
use Rattle.sh_tree.specs.declared.token.command.Lead.TheVariants as lead
use Rattle.sh_tree.specs.declared.token.command.Operator.TheVariants as op
use Rattle.sh_tree.specs.declared.token.command.Reserved.TheVariants as word
use Rattle.sh_tree.specs.declared.token.command.Stage.TheVariants.{First}
use Rattle.sh_tree.specs.standard.language.Commands.{lead_at, blanks, begins_pipeline, begins_command, begins_simple, begins_compound, is_redirection, redirects, is_newline_lead}
use Rattle.sh_tree.specs.standard.language.Reading as r
use Rattle.sh_tree.specs.standard.language.Reading.{ReadsList, ReadsDo, ReadsCompound, ReadsBranches, ReadsElse}
use Rattle.sh_tree.specs.standard.language.States.{State, Document}
use Rattle.sh_tree.specs.standard.language.Trees as tree
use Rattle.sh_print.specs.Bare as bare
use Rattle.sh_print.specs.Layout.{tabs, block, items_text, kind_text, branches_text, otherwise_text}
use Rattle.sh_print.specs.Lists.{branches_from}
use Rattle.sh_print.specs.Trees.{script_of, kind_of}
use Rattle.sh_print.proofs.TreeLemmas.{kind_of-Group, kind_of-Subshell, kind_of-if, kind_of-else, kind_of-Loop}
use Rattle.sh_print.proofs.MadeLemmas.{branch_made}
use Rattle.sh_print.proofs.PlaceLemmas.{front, front_none, front_tabs, fronted, lead_there, off, one_off}
use Rattle.sh_print.proofs.OwnTokens.{Gap, line, reserved_text, reserved_leads, opening_leads}
use Rattle.sh_print.proofs.DocumentsPrinted.{place, so_far, Fits}
use Rattle.sh_print.proofs.ElementsPrinted.{IsClosed}
use Rattle.sh_print.proofs.JoinsPrinted.{IsStop}
use Rattle.sh_print.proofs.ListsPrinted.{PrintsList, block_print, block_text, do_print, line_front, reserved_front, word_stops, kept_both, fits_both}
use Rattle.sh_copies.proofs.Leads.{closing_lead}

module _ (b : List ℕ) where
  -- a compound command from its first token to the token after it
  pub record PrintedCompound (limit m i n k : ℕ) (closed : Bool) (ds : List Document) (what : bare.Kind) (rest : List ℕ) : Type 0 where
    pub at : ℕ
    pub count : ℕ
    pub ended : Bool
    pub bodies : List Document
    pub met : List bare.Document
    pub first : Lead
    pub first_is : lead_at b First i ≡ first
    pub begins : begins_compound first ≡ true
    pub kept : so_far b bodies [] ≡ so_far b ds [] ++ met
    pub behind : drop at b ≡ front rest
    pub total : count ≡ n + m
    pub reads : (body : ℕ → Document) → Fits b body (length (so_far b ds [])) met
        → (x : Kind) × ReadsCompound limit b body first (place i n k closed [] ds) (place at count k ended [] bodies) x × (kind_of b x ≡ what)

  pub record PrintsCompound (limit k d m : ℕ) (what : bare.Kind) : Type 0 where
    pub print : (i n : ℕ) (closed : Bool) (ds : List Document) (rest : List ℕ) → drop i b ≡ kind_text d what ++ rest → IsClosed rest → PrintedCompound limit m i n k closed ds what rest

  -- { list }
  pub group_prints : {limit k m : ℕ} {items : bare.Items} (d : ℕ) → k < limit → PrintsList b limit (k + 1) (d + 1) m items → PrintsCompound limit k d m (bare.Group items)
  unfolding items_text reserved_text begins_compound begins_pipeline begins_command begins_simple is_redirection
  group_prints {items = items} d deep list = record {
    print = λ i n closed ds rest e close.
        let tail = tabs d ++ (codes "}" ++ rest) in
        let text = items_text (d + 1) items ++ tail in
        let e1 : drop i b ≡ codes "{" ++ 10 ∷ text = e ∙ append_assoc (block d (codes "{") (items_text (d + 1) items)) (codes "}") rest ∙ block_text d (codes "{") (items_text (d + 1) items) (codes "}" ++ rest) in
        let one = block_print b list (codes "{") i n closed ds tail e1 (word_stops d word.RightBrace rest close.gap refl) in
        let there : drop one.at b ≡ codes "}" ++ rest = one.behind ∙ line_front d word.RightBrace rest in
        record {
          at = blanks false b (one.at + 1);
          count = one.count;
          ended = one.ended;
          bodies = one.bodies;
          met = one.met;
          first = lead.Reserved word.LeftBrace;
          first_is = lead_there b First i _ e1 ∙ reserved_leads word.LeftBrace (10 ∷ text) line;
          begins = refl;
          kept = one.kept;
          behind = fronted b (one.at + 1) rest (one_off b one.at there);
          total = one.total;
          reads = λ body f. let t = one.reads body f in
              (kind.Group t.0, r.group deep t.1 (lead_there b First one.at _ there ∙ reserved_leads word.RightBrace rest close.gap), kind_of-Group b t.0 ∙ ap bare.Group t.2);
        };
  }

  -- ( list )
  pub subshell_prints : {limit k m : ℕ} {items : bare.Items} (d : ℕ) → k < limit → PrintsList b limit (k + 1) (d + 1) m items → PrintsCompound limit k d m (bare.Subshell items)
  unfolding items_text begins_compound begins_pipeline begins_command begins_simple is_redirection redirects
  subshell_prints {items = items} d deep list = record {
    print = λ i n closed ds rest e close.
        let tail = tabs d ++ (41 ∷ rest) in
        let text = items_text (d + 1) items ++ tail in
        let e1 : drop i b ≡ codes "(" ++ 10 ∷ text = e ∙ append_assoc (block d (codes "(") (items_text (d + 1) items)) (codes ")") rest ∙ block_text d (codes "(") (items_text (d + 1) items) (41 ∷ rest) in
        let here : front tail ≡ 41 ∷ rest = front_tabs d (41 ∷ rest) ∙ front_none 41 rest refl refl refl in
        let closes = ap (λ t. lead_at t First 0) here ∙ closing_lead First rest in
        let one = block_print b list (codes "(") i n closed ds tail e1 (record { none = ap begins_pipeline closes; straight = ap is_newline_lead closes }) in
        let there : drop one.at b ≡ 41 ∷ rest = one.behind ∙ here in
        record {
          at = blanks false b (one.at + 1);
          count = one.count;
          ended = one.ended;
          bodies = one.bodies;
          met = one.met;
          first = lead.Operator op.LeftParenthesis;
          first_is = lead_there b First i _ e1 ∙ opening_leads (10 ∷ text) line;
          begins = refl;
          kept = one.kept;
          behind = fronted b (one.at + 1) rest (one_off b one.at there);
          total = one.total;
          reads = λ body f. let t = one.reads body f in
              (kind.Subshell t.0, r.subshell deep t.1 (lead_there b First one.at _ there ∙ closing_lead First rest), kind_of-Subshell b t.0 ∙ ap bare.Subshell t.2);
        };
  }

  -- a condition after its word, and `do`, a list and `done`
  record PrintedLoop (limit m i n k : ℕ) (closed : Bool) (ds : List Document) (w : List ℕ) (condition items : bare.Items) (rest : List ℕ) : Type 0 where
    at : ℕ
    count : ℕ
    ended : Bool
    bodies : List Document
    met : List bare.Document
    line_is : (inner : List ℕ) × (drop i b ≡ w ++ 10 ∷ inner)
    kept : so_far b bodies [] ≡ so_far b ds [] ++ met
    behind : drop at b ≡ front rest
    total : count ≡ n + m
    reads : (body : ℕ → Document) → Fits b body (length (so_far b ds [])) met
        → (u : State) × (c : Script) × (t : Script) × ReadsList limit b body (place (blanks false b (i + length w)) n k closed [] ds) u c
        × ReadsDo limit b body u (place at count k ended [] bodies) t × (script_of b c ≡ condition) × (script_of b t ≡ items)

  loop_print : {limit k m o : ℕ} {condition items : bare.Items} (d : ℕ) → PrintsList b limit k (d + 1) m condition → PrintsList b limit k (d + 1) o items → (w : List ℕ) (i n : ℕ) (closed : Bool) (ds : List Document) (rest : List ℕ)
      → drop i b ≡ (block d w (items_text (d + 1) condition) ++ (block d (codes "do") (items_text (d + 1) items) ++ codes "done")) ++ rest → Gap rest
      → PrintedLoop limit (m + o) i n k closed ds w condition items rest
  unfolding reserved_text begins_compound begins_pipeline begins_command begins_simple is_redirection
  loop_print {k = k} {condition = condition} {items = items} d test list w i n closed ds rest e gap =
      let after = block d (codes "do") (items_text (d + 1) items) ++ (codes "done" ++ rest) in
      let tail = tabs d ++ after in
      let e1 : drop i b ≡ w ++ 10 ∷ (items_text (d + 1) condition ++ tail) =
      e ∙ append_assoc (block d w (items_text (d + 1) condition)) (block d (codes "do") (items_text (d + 1) items) ++ codes "done") rest
      ∙ block_text d w (items_text (d + 1) condition) ((block d (codes "do") (items_text (d + 1) items) ++ codes "done") ++ rest)
      ∙ ap (λ t. w ++ 10 ∷ (items_text (d + 1) condition ++ (tabs d ++ t))) (append_assoc (block d (codes "do") (items_text (d + 1) items)) (codes "done") rest) in
      let same = block_text d (codes "do") (items_text (d + 1) items) (codes "done" ++ rest) in
      let inner = 10 ∷ (items_text (d + 1) items ++ (tabs d ++ (codes "done" ++ rest))) in
      let stop = subst (λ t. IsStop (tabs d ++ t)) (sym same) (word_stops d word.Do inner line refl) in
      let one = block_print b test w i n closed ds tail e1 stop in
      let there : drop one.at b ≡ after = one.behind ∙ front_tabs d after ∙ ap front same ∙ reserved_front word.Do inner ∙ sym same in
      let two = do_print b d list one.at one.count one.ended one.bodies rest there gap in
      record {
        at = two.at;
        count = two.count;
        ended = two.ended;
        bodies = two.bodies;
        met = one.met ++ two.met;
        line_is = (items_text (d + 1) condition ++ tail, e1);
        kept = kept_both (so_far b ds []) (so_far b one.bodies []) (so_far b two.bodies []) one.met two.met one.kept two.kept;
        behind = two.behind;
        total = (let all = two.total in let first = one.total in omega arith);
        reads = λ body f.
            let parts = fits_both b (so_far b ds []) (so_far b one.bodies []) one.met two.met one.kept f in
            let c = one.reads body parts.0 in
            let t = two.reads body parts.1 in
            (place one.at one.count k one.ended [] one.bodies, c.0, t.0, c.1, t.1, c.2, t.2);
      }

  -- while or until, a list, do, a list and done
  pub loop_prints : {limit k m o : ℕ} {condition items : bare.Items} (d : ℕ) (how : LoopKind) → k < limit → PrintsList b limit (k + 1) (d + 1) m condition → PrintsList b limit (k + 1) (d + 1) o items
      → PrintsCompound limit k d (m + o) (bare.Loop how condition items)
  unfolding items_text reserved_text begins_compound
  loop_prints {condition = condition} {items = items} d loop.While deep test list = record {
    print = λ i n closed ds rest e close.
        let p = loop_print d test list (codes "while") i n closed ds rest e close.gap in
        record {
          at = p.at;
          count = p.count;
          ended = p.ended;
          bodies = p.bodies;
          met = p.met;
          first = lead.Reserved word.While;
          first_is = lead_there b First i _ p.line_is.1 ∙ reserved_leads word.While (10 ∷ p.line_is.0) line;
          begins = refl;
          kept = p.kept;
          behind = p.behind;
          total = p.total;
          reads = λ body f. let x = p.reads body f in
              (kind.Loop loop.While x.1 x.2, r.while_loop deep x.3 x.4, kind_of-Loop b loop.While x.1 x.2 ∙ ap (λ y. bare.Loop loop.While y (script_of b x.2)) x.5 ∙ ap (bare.Loop loop.While condition) x.6);
        };
  }
  loop_prints {condition = condition} {items = items} d loop.Until deep test list = record {
    print = λ i n closed ds rest e close.
        let p = loop_print d test list (codes "until") i n closed ds rest e close.gap in
        record {
          at = p.at;
          count = p.count;
          ended = p.ended;
          bodies = p.bodies;
          met = p.met;
          first = lead.Reserved word.Until;
          first_is = lead_there b First i _ p.line_is.1 ∙ reserved_leads word.Until (10 ∷ p.line_is.0) line;
          begins = refl;
          kept = p.kept;
          behind = p.behind;
          total = p.total;
          reads = λ body f. let x = p.reads body f in
              (kind.Loop loop.Until x.1 x.2, r.until_loop deep x.3 x.4, kind_of-Loop b loop.Until x.1 x.2 ∙ ap (λ y. bare.Loop loop.Until y (script_of b x.2)) x.5 ∙ ap (bare.Loop loop.Until condition) x.6);
        };
  }

  -- Branches

  abbrev pub otherwise_from : Option Script → bare.Otherwise
  otherwise_from None = bare.no_else
  otherwise_from (Some t) = bare.else_of (script_of b t)

  -- the branches after the first, `else` and `fi`
  abbrev pub else_text : ℕ → bare.Branches → bare.Otherwise → List ℕ → List ℕ
  else_text d branches otherwise rest = branches_text d (codes "elif") branches ++ (otherwise_text d otherwise ++ (codes "fi" ++ rest))

  pub record PrintedElse (limit m i n k : ℕ) (closed : Bool) (ds : List Document) (branches : bare.Branches) (otherwise : bare.Otherwise) (rest : List ℕ) : Type 0 where
    pub at : ℕ
    pub count : ℕ
    pub ended : Bool
    pub bodies : List Document
    pub met : List bare.Document
    pub kept : so_far b bodies [] ≡ so_far b ds [] ++ met
    pub behind : drop at b ≡ front rest
    pub total : count ≡ n + m
    pub reads : (body : ℕ → Document) → Fits b body (length (so_far b ds [])) met
        → (bs : List Branch) × (o : Option Script) × ReadsElse limit b body (place i n k closed [] ds) (place at count k ended [] bodies) bs o
        × (branches_from b bs ≡ branches) × (otherwise_from o ≡ otherwise)

  pub record PrintsElse (limit k d m : ℕ) (branches : bare.Branches) (otherwise : bare.Otherwise) : Type 0 where
    pub stops : (rest : List ℕ) → Gap rest → IsStop (tabs d ++ else_text d branches otherwise rest)
    pub front_is : (rest : List ℕ) → front (else_text d branches otherwise rest) ≡ else_text d branches otherwise rest
    pub print : (i n : ℕ) (closed : Bool) (ds : List Document) (rest : List ℕ) → drop i b ≡ else_text d branches otherwise rest → Gap rest → PrintedElse limit m i n k closed ds branches otherwise rest

  pub record PrintedBranches (limit m i n k : ℕ) (closed : Bool) (ds : List Document) (w : List ℕ) (branches : bare.Branches) (otherwise : bare.Otherwise) (rest : List ℕ) : Type 0 where
    pub at : ℕ
    pub count : ℕ
    pub ended : Bool
    pub bodies : List Document
    pub met : List bare.Document
    pub line_is : (inner : List ℕ) × (drop i b ≡ w ++ 10 ∷ inner)
    pub kept : so_far b bodies [] ≡ so_far b ds [] ++ met
    pub behind : drop at b ≡ front rest
    pub total : count ≡ n + m
    pub reads : (body : ℕ → Document) → Fits b body (length (so_far b ds [])) met
        → (bs : List Branch) × (o : Option Script) × ReadsBranches limit b body (place (blanks false b (i + length w)) n k closed [] ds) (place at count k ended [] bodies) bs o
        × (branches_from b bs ≡ branches) × (otherwise_from o ≡ otherwise)

  pub record PrintsBranches (limit k d m : ℕ) (branches : bare.Branches) (otherwise : bare.Otherwise) : Type 0 where
    pub print : (w : List ℕ) (i n : ℕ) (closed : Bool) (ds : List Document) (rest : List ℕ) → drop i b ≡ branches_text d w branches ++ (otherwise_text d otherwise ++ (codes "fi" ++ rest)) → Gap rest
        → PrintedBranches limit m i n k closed ds w branches otherwise rest

  -- a condition after its word, `then`, a list, and what follows
  pub branch_prints : {limit k m o later : ℕ} {condition items : bare.Items} {branches : bare.Branches} {otherwise : bare.Otherwise} (d : ℕ) → PrintsList b limit k (d + 1) m condition → PrintsList b limit k (d + 1) o items
      → PrintsElse limit k d later branches otherwise → PrintsBranches limit k d (m + o + later) (bare.more_branches condition items branches) otherwise
  unfolding items_text reserved_text begins_pipeline begins_command begins_simple begins_compound is_redirection
  branch_prints {k = k} {condition = condition} {items = items} {branches = branches} {otherwise = otherwise} d test list others = record {
    print = λ w i n closed ds rest e gap.
        let last = otherwise_text d otherwise ++ (codes "fi" ++ rest) in
        let x = else_text d branches otherwise rest in
        let test_text = items_text (d + 1) condition in
        let list_text = items_text (d + 1) items in
        let then_block = block d (codes "then") list_text in
        let after = then_block ++ x in
        let e1 : drop i b ≡ w ++ 10 ∷ (test_text ++ (tabs d ++ after)) =
        e ∙ append_assoc (block d w test_text) (then_block ++ branches_text d (codes "elif") branches) last
        ∙ block_text d w test_text ((then_block ++ branches_text d (codes "elif") branches) ++ last)
        ∙ ap (λ t. w ++ 10 ∷ (test_text ++ (tabs d ++ t))) (append_assoc then_block (branches_text d (codes "elif") branches) last) in
        let same = block_text d (codes "then") list_text x in
        let inner = 10 ∷ (list_text ++ (tabs d ++ x)) in
        let stop = subst (λ t. IsStop (tabs d ++ t)) (sym same) (word_stops d word.Then inner line refl) in
        let one = block_print b test w i n closed ds (tabs d ++ after) e1 stop in
        let there : drop one.at b ≡ codes "then" ++ inner = one.behind ∙ front_tabs d after ∙ ap front same ∙ reserved_front word.Then inner in
        let two = block_print b list (codes "then") one.at one.count one.ended one.bodies (tabs d ++ x) there (others.stops rest gap) in
        let three = others.print two.at two.count two.ended two.bodies rest (two.behind ∙ front_tabs d x ∙ others.front_is rest) gap in
        let kept = kept_both (so_far b one.bodies []) (so_far b two.bodies []) (so_far b three.bodies []) two.met three.met two.kept three.kept in
        record {
          at = three.at;
          count = three.count;
          ended = three.ended;
          bodies = three.bodies;
          met = one.met ++ (two.met ++ three.met);
          line_is = (test_text ++ (tabs d ++ after), e1);
          kept = kept_both (so_far b ds []) (so_far b one.bodies []) (so_far b three.bodies []) one.met (two.met ++ three.met) one.kept kept;
          behind = three.behind;
          total = (let all = three.total in let second = two.total in let first = one.total in omega arith);
          reads = λ body f.
              let parts = fits_both b (so_far b ds []) (so_far b one.bodies []) one.met (two.met ++ three.met) one.kept f in
              let more = fits_both b (so_far b one.bodies []) (so_far b two.bodies []) two.met three.met two.kept parts.1 in
              let c = one.reads body parts.0 in
              let t = two.reads body more.0 in
              let o = three.reads body more.1 in (
                tree.branch c.0 t.0 ∷ o.0,
                o.1,
                r.branch c.1 (lead_there b First one.at _ there ∙ reserved_leads word.Then inner line) t.1 o.2,
                branch_made b c.0 t.0 o.0 ∙ ap (λ y. bare.more_branches y (script_of b t.0) (branches_from b o.0)) c.2
                    ∙ ap (λ y. bare.more_branches condition y (branches_from b o.0)) t.2 ∙ ap (bare.more_branches condition items) o.3,
                o.4,
              );
        };
  }

  -- fi
  pub fi_prints : {limit k : ℕ} (d : ℕ) → PrintsElse limit k d 0 bare.no_branches bare.no_else
  unfolding items_text reserved_text begins_pipeline begins_command begins_simple begins_compound is_redirection branches_from
  fi_prints d = record {
    stops = λ rest gap. word_stops d word.Fi rest gap refl;
    front_is = λ rest. reserved_front word.Fi rest;
    print = λ i n closed ds rest e gap. record {
      at = blanks false b (i + 2);
      count = n;
      ended = closed;
      bodies = ds;
      met = [];
      kept = sym (append-nil (so_far b ds []));
      behind = fronted b (i + 2) rest (off b i (codes "fi") rest e);
      total = (let none : n ≡ n + 0 = omega arith in none);
      reads = λ body f. ([], None, r.fi (lead_there b First i _ e ∙ reserved_leads word.Fi rest gap), refl, refl);
    };
  }

  -- else, a list and fi
  pub otherwise_prints : {limit k m : ℕ} {items : bare.Items} (d : ℕ) → PrintsList b limit k (d + 1) m items → PrintsElse limit k d m bare.no_branches (bare.else_of items)
  unfolding items_text reserved_text begins_pipeline begins_command begins_simple begins_compound is_redirection branches_from
  otherwise_prints {items = items} d list =
      let text = items_text (d + 1) items in
      let inner : List ℕ → List ℕ = λ rest. 10 ∷ (text ++ (tabs d ++ (codes "fi" ++ rest))) in
      record {
        stops = λ rest gap. subst (λ t. IsStop (tabs d ++ t)) (sym (block_text d (codes "else") text (codes "fi" ++ rest))) (word_stops d word.Else (inner rest) line refl);
        front_is = λ rest. let same = block_text d (codes "else") text (codes "fi" ++ rest) in ap front same ∙ reserved_front word.Else (inner rest) ∙ sym same;
        print = λ i n closed ds rest e gap.
            let e1 : drop i b ≡ codes "else" ++ inner rest = e ∙ block_text d (codes "else") text (codes "fi" ++ rest) in
            let one = block_print b list (codes "else") i n closed ds (tabs d ++ (codes "fi" ++ rest)) e1 (word_stops d word.Fi rest gap refl) in
            let there : drop one.at b ≡ codes "fi" ++ rest = one.behind ∙ line_front d word.Fi rest in
            record {
              at = blanks false b (one.at + 2);
              count = one.count;
              ended = one.ended;
              bodies = one.bodies;
              met = one.met;
              kept = one.kept;
              behind = fronted b (one.at + 2) rest (off b one.at (codes "fi") rest there);
              total = one.total;
              reads = λ body f. let t = one.reads body f in
                  ([], Some t.0, r.otherwise (lead_there b First i _ e1 ∙ reserved_leads word.Else (inner rest) line) t.1 (lead_there b First one.at _ there ∙ reserved_leads word.Fi rest gap), refl, ap bare.else_of t.2);
            };
      }

  -- elif, and a branch
  pub elif_prints : {limit k m : ℕ} {condition items : bare.Items} {branches : bare.Branches} {otherwise : bare.Otherwise} (d : ℕ)
      → PrintsBranches limit k d m (bare.more_branches condition items branches) otherwise → PrintsElse limit k d m (bare.more_branches condition items branches) otherwise
  unfolding items_text reserved_text begins_pipeline begins_command begins_simple begins_compound is_redirection
  elif_prints {condition = condition} {items = items} {branches = branches} {otherwise = otherwise} d more =
      let test_text = items_text (d + 1) condition in
      let others = block d (codes "then") (items_text (d + 1) items) ++ branches_text d (codes "elif") branches in
      let inner : List ℕ → List ℕ = λ rest. 10 ∷ (test_text ++ (tabs d ++ (others ++ (otherwise_text d otherwise ++ (codes "fi" ++ rest))))) in
      let same : (rest : List ℕ) → else_text d (bare.more_branches condition items branches) otherwise rest ≡ codes "elif" ++ inner rest = λ rest.
      append_assoc (block d (codes "elif") test_text) others (otherwise_text d otherwise ++ (codes "fi" ++ rest)) ∙ block_text d (codes "elif") test_text (others ++ (otherwise_text d otherwise ++ (codes "fi" ++ rest))) in
      record {
        stops = λ rest gap. subst (λ t. IsStop (tabs d ++ t)) (sym (same rest)) (word_stops d word.Elif (inner rest) line refl);
        front_is = λ rest. ap front (same rest) ∙ reserved_front word.Elif (inner rest) ∙ sym (same rest);
        print = λ i n closed ds rest e gap.
            let p = more.print (codes "elif") i n closed ds rest e gap in
            record {
              at = p.at;
              count = p.count;
              ended = p.ended;
              bodies = p.bodies;
              met = p.met;
              kept = p.kept;
              behind = p.behind;
              total = p.total;
              reads = λ body f. let x = p.reads body f in
                  (x.0, x.1, r.elif (lead_there b First i _ (e ∙ same rest) ∙ reserved_leads word.Elif (inner rest) line) x.2, x.3, x.4);
            };
      }

  -- if
  pub conditional_prints : {limit k m : ℕ} {branches : bare.Branches} {otherwise : bare.Otherwise} (d : ℕ) → k < limit → PrintsBranches limit (k + 1) d m branches otherwise → PrintsCompound limit k d m (bare.Conditional branches otherwise)
  unfolding items_text reserved_text begins_compound
  conditional_prints {branches = branches} {otherwise = otherwise} d deep more = record {
    print = λ i n closed ds rest e close.
        let p = more.print (codes "if") i n closed ds rest (e ∙ append_assoc (branches_text d (codes "if") branches) (otherwise_text d otherwise ++ codes "fi") rest
        ∙ ap (λ t. branches_text d (codes "if") branches ++ t) (append_assoc (otherwise_text d otherwise) (codes "fi") rest)) close.gap in
        record {
          at = p.at;
          count = p.count;
          ended = p.ended;
          bodies = p.bodies;
          met = p.met;
          first = lead.Reserved word.If;
          first_is = lead_there b First i _ p.line_is.1 ∙ reserved_leads word.If (10 ∷ p.line_is.0) line;
          begins = refl;
          kept = p.kept;
          behind = p.behind;
          total = p.total;
          reads = λ body f. let x = p.reads body f in
              (kind.Cond x.0 x.1, r.cond deep x.2, whole x.0 x.1 ∙ ap (λ y. bare.Conditional y (otherwise_from x.1)) x.3 ∙ ap (bare.Conditional branches) x.4);
        };
  }
    where
      whole : (bs : List Branch) (o : Option Script) → kind_of b (kind.Cond bs o) ≡ bare.Conditional (branches_from b bs) (otherwise_from o)
      whole bs None = kind_of-if b bs
      whole bs (Some t) = kind_of-else b bs t
