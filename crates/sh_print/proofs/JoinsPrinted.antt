-- What is between printed commands is read: the end of an item, and what follows `|`, `&&` and
-- `||`.
use Rattle.std.proofs.Common.{◌≡◌, ℕ, ◌+◌, Bool, true, false, if◌then◌else◌, Some, List, [], ◌∷◌, ◌++◌, length, drop, codes, refl, sym, ap, subst, ◌∙◌, arith, append_assoc}
use Rattle.std.specs.List.{flat_map}
use Rattle.std.proofs.lemmas.Bool.{true≢false}
use Rattle.sh_tree.specs.declared.tree.Link.TheVariants as link
use Rattle.sh_tree.specs.declared.token.command.Lead.{Lead}
use Rattle.sh_tree.specs.declared.token.command.Lead.TheVariants as lead
use Rattle.sh_tree.specs.declared.token.command.Stage.{Stage}
use Rattle.sh_tree.specs.declared.token.command.Stage.TheVariants.{First}
use Rattle.sh_tree.specs.standard.language.Bytes.{is_first}
use Rattle.sh_tree.specs.standard.language.Commands.{lead_at, blanks, is_parenthesis, is_redirection, begins_simple, begins_command, begins_pipeline, begins_compound, is_newline_lead, separator, redirects}
use Rattle.sh_tree.specs.standard.language.HereDocuments.{Mark}
use Rattle.sh_tree.specs.standard.language.Reading as r
use Rattle.sh_tree.specs.standard.language.Reading.{ReadsBreaks, parted, behind_token}
use Rattle.sh_tree.specs.standard.language.States.{Document}
use Rattle.sh_print.specs.Bare as bare
use Rattle.sh_print.specs.Layout.{tabs, join, line_end, background_text, document_text, links_text}
use Rattle.sh_print.proofs.PlaceLemmas.{front, front_blank, front_none, front_tabs, fronted, lead_there, one_off}
use Rattle.sh_print.proofs.OwnTokens.{Gap, blank, line, newline_leads, background_leads, bar_leads, and_leads, or_leads}
use Rattle.sh_print.proofs.DocumentsPrinted.{place, so_far, Marked, no_mark, one_mark, break_print}
use Rattle.sh_print.proofs.ElementsPrinted.{IsTail}

-- Tails of commands

pub line_tail : (cs : List ℕ) → IsTail (10 ∷ cs)
unfolding begins_simple is_redirection is_first
line_tail cs =
    let here = front_none 10 cs refl refl refl in
    record { gap = line; closed = ap (is_first is_parenthesis) here; ends = λ g. ap (λ t. begins_simple (lead_at t g 0)) here ∙ ap begins_simple (newline_leads g cs) }

-- after a blank, an operator that is none of a redirection
blank_tail : (c : ℕ) (cs : List ℕ) → front (c ∷ cs) ≡ c ∷ cs → is_parenthesis c ≡ false → ((g : Stage) → begins_simple (lead_at (c ∷ cs) g 0) ≡ false) → IsTail (32 ∷ c ∷ cs)
unfolding is_first
blank_tail c cs here plain ends =
    let there = front_blank 32 (c ∷ cs) refl ∙ here in
    record { gap = blank; closed = ap (is_first is_parenthesis) there ∙ plain; ends = λ g. ap (λ t. begins_simple (lead_at t g 0)) there ∙ ends g }

pub background_tail : (cs : List ℕ) → Gap cs → IsTail (32 ∷ 38 ∷ cs)
unfolding begins_simple is_redirection redirects
background_tail cs gap = blank_tail 38 cs (front_none 38 cs refl refl refl) refl (λ g. ap begins_simple (background_leads g cs gap))

pub bar_tail : (cs : List ℕ) → Gap cs → IsTail (32 ∷ 124 ∷ cs)
unfolding begins_simple is_redirection redirects
bar_tail cs gap = blank_tail 124 cs (front_none 124 cs refl refl refl) refl (λ g. ap begins_simple (bar_leads g cs gap))

pub and_tail : (cs : List ℕ) → Gap cs → IsTail (32 ∷ 38 ∷ 38 ∷ cs)
unfolding begins_simple is_redirection redirects
and_tail cs gap = blank_tail 38 (38 ∷ cs) (front_none 38 (38 ∷ cs) refl refl refl) refl (λ g. ap begins_simple (and_leads g cs gap))

pub or_tail : (cs : List ℕ) → Gap cs → IsTail (32 ∷ 124 ∷ 124 ∷ cs)
unfolding begins_simple is_redirection redirects
or_tail cs gap = blank_tail 124 (124 ∷ cs) (front_none 124 (124 ∷ cs) refl refl refl) refl (λ g. ap begins_simple (or_leads g cs gap))

-- Joins

pub join_gap : (d : ℕ) (waiting : List bare.Document) (cs : List ℕ) → Gap (join d waiting ++ cs)
join_gap d [] cs = blank
join_gap d (x ∷ waiting) cs = line

pub links_tail : (d : ℕ) (waiting : List bare.Document) (links : bare.Links) (background : Bool) (cs : List ℕ) → IsTail (links_text d waiting links background ++ cs)
unfolding links_text
links_tail d waiting bare.no_links false cs = line_tail (flat_map document_text waiting ++ cs)
links_tail d waiting bare.no_links true cs = background_tail (line_end waiting ++ cs) line
links_tail d waiting (bare.more_links link.AndThen p rest) background cs = and_tail _ (subst Gap (sym (append_assoc (join d waiting) _ cs)) (join_gap d waiting _))
links_tail d waiting (bare.more_links link.OrElse p rest) background cs = or_tail _ (subst Gap (sym (append_assoc (join d waiting) _ cs)) (join_gap d waiting _))

-- What follows a list: a token that begins no pipeline, and no newline
pub record IsStop (rest : List ℕ) : Type 0 where
  pub none : begins_pipeline (lead_at (front rest) First 0) ≡ false
  pub straight : is_newline_lead (lead_at (front rest) First 0) ≡ false

pub begins_straight : (l : Lead) → begins_pipeline l ≡ true → is_newline_lead l ≡ false
unfolding begins_pipeline begins_command begins_simple begins_compound is_redirection
begins_straight lead.Newline h = absurd (true≢false (sym h))
begins_straight l h = refl

module _ (b : List ℕ) where
  pub record PrintedJoin (limit held i n k : ℕ) (closed : Bool) (ms : List Mark) (ds : List Document) (waiting : List bare.Document) (rest : List ℕ) : Type 0 where
    pub at : ℕ
    pub count : ℕ
    pub bodies : List Document
    pub reads : ReadsBreaks limit b (place (blanks false b i) n k closed ms ds) (place at count k closed [] bodies)
    pub behind : drop at b ≡ front rest
    pub kept : so_far b bodies [] ≡ so_far b ds waiting
    pub total : count ≡ n + held

  -- after `|`, `&&` or `||`
  pub join_print : {limit held : ℕ} {ms : List Mark} {waiting : List bare.Document} → Marked b limit held ms waiting → (i n k : ℕ) (closed : Bool) (ds : List Document) (d : ℕ) (rest : List ℕ)
      → drop i b ≡ join d waiting ++ rest → is_newline_lead (lead_at (front rest) First 0) ≡ false → PrintedJoin limit held i n k closed ms ds waiting rest
  join_print no_mark i n k closed ds d rest e straight =
      let behind = fronted b i (32 ∷ rest) e ∙ front_blank 32 rest refl in
      record {
        at = blanks false b i;
        count = n;
        bodies = ds;
        reads = r.no_break (ap is_newline_lead (lead_there b First (blanks false b i) (front rest) behind) ∙ straight);
        behind = behind;
        kept = refl;
        total = (let e : n ≡ n + 0 = omega arith in e);
      }
  join_print {limit = limit} {ms = m ∷ ms} {waiting = x ∷ waiting} (one_mark document marked) i n k closed ds d rest e straight =
      let text = flat_map document_text (x ∷ waiting) in
      let e1 : drop i b ≡ 10 ∷ (text ++ (tabs d ++ rest)) = e ∙ append_assoc (10 ∷ text) (tabs d) rest in
      let j = blanks false b i in
      let p = break_print b limit j n k closed (m ∷ ms) ds (x ∷ waiting) (tabs d ++ rest) (one_mark document marked)
      (fronted b i _ e1 ∙ front_none 10 (text ++ (tabs d ++ rest)) refl refl refl) (ap (λ t. is_newline_lead (lead_at t First 0)) (front_tabs d rest) ∙ straight) in
      record {
        at = p.at;
        count = p.count;
        bodies = p.bodies;
        reads = p.reads;
        behind = p.behind ∙ front_tabs d rest;
        kept = p.kept;
        total = p.total;
      }

  pub record PrintedEnd (limit held i n k : ℕ) (closed : Bool) (ms : List Mark) (ds : List Document) (waiting : List bare.Document) (background : Bool) (rest : List ℕ) : Type 0 where
    pub at : ℕ
    pub count : ℕ
    pub bodies : List Document
    pub separates : separator (lead_at b First i) ≡ Some background
    pub reads : ReadsBreaks limit b (parted b (place i n k closed ms ds)) (place at count k closed [] bodies)
    pub behind : drop at b ≡ front rest
    pub kept : so_far b bodies [] ≡ so_far b ds waiting
    pub to_end : rest ≡ [] → at ≡ length b
    pub total : count ≡ n + held

  -- after an item
  pub end_print : {limit held : ℕ} {ms : List Mark} {waiting : List bare.Document} → Marked b limit held ms waiting → (i n k : ℕ) (closed : Bool) (ds : List Document) (background : Bool) (rest : List ℕ)
      → drop i b ≡ front (background_text background ++ (line_end waiting ++ rest)) → is_newline_lead (lead_at (front rest) First 0) ≡ false → PrintedEnd limit held i n k closed ms ds waiting background rest
  unfolding separator
  end_print {limit = limit} {ms = ms} {waiting = waiting} marked i n k closed ds false rest e straight =
      let text = flat_map document_text waiting ++ rest in
      let here : drop i b ≡ 10 ∷ text = e ∙ front_none 10 text refl refl refl in
      let lead_is = lead_there b First i (10 ∷ text) here ∙ newline_leads First text in
      let p = break_print b limit i n k closed ms ds waiting rest marked here straight in
      let s = place i n k closed ms ds in
      let v = place p.at p.count k closed [] p.bodies in
      record {
        at = p.at;
        count = p.count;
        bodies = p.bodies;
        separates = ap separator lead_is;
        reads = subst (λ l. ReadsBreaks limit b (if is_newline_lead l then s else behind_token b (codes ";") s) v) (sym lead_is) p.reads;
        behind = p.behind;
        kept = p.kept;
        to_end = p.to_end;
        total = p.total;
      }
  end_print {limit = limit} {ms = ms} {waiting = waiting} marked i n k closed ds true rest e straight =
      let text = flat_map document_text waiting ++ rest in
      let here : drop i b ≡ 38 ∷ 10 ∷ text = e ∙ front_blank 32 (38 ∷ 10 ∷ text) refl ∙ front_none 38 (10 ∷ text) refl refl refl in
      let lead_is = lead_there b First i (38 ∷ 10 ∷ text) here ∙ background_leads First (10 ∷ text) line in
      let j = blanks false b (i + 1) in
      let p = break_print b limit j n k closed ms ds waiting rest marked (fronted b (i + 1) (10 ∷ text) (one_off b i here) ∙ front_none 10 text refl refl refl) straight in
      let s = place i n k closed ms ds in
      let v = place p.at p.count k closed [] p.bodies in
      record {
        at = p.at;
        count = p.count;
        bodies = p.bodies;
        separates = ap separator lead_is;
        reads = subst (λ l. ReadsBreaks limit b (if is_newline_lead l then s else behind_token b (codes ";") s) v) (sym lead_is) p.reads;
        behind = p.behind;
        kept = p.kept;
        to_end = p.to_end;
        total = p.total;
      }
