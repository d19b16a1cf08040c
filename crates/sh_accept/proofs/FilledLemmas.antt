-- A compact certificate of a script that is read is filled to one certificate at most, whatever the
-- numbering.
use Rattle.std.proofs.Common.{◌≡◌, ℕ, Bool, true, List, [], length, Result, Ok, refl, sym, ◌∙◌, ap, subst}
use Rattle.std.specs.List.{filter_map}
use Rattle.sh_tree.specs.Answers.{Parses}
use Rattle.sh_tree.specs.declared.limits.TheConstants.{MAX_NESTING}
use Rattle.sh_tree.specs.declared.tree.Script.{Script}
use Rattle.sh_tree.specs.standard.program.Syntax.{Text}
use Rattle.sh_tree.specs.standard.program.Trees.{script_of}
use Rattle.sh_runs.specs.Calls.{table_of, functions_of, names_of, with_name, defined}
use Rattle.sh_runs.specs.Sites.{sites_of}
use Rattle.sh_domain.specs.Admitted.{Fits, claims_in, functions_in}
use Rattle.sh_domain.specs.CompactForms.{GivenSheet, Full, Compact, read_given}
use Rattle.sh_domain.specs.CompactReading.{given_fits}
use Rattle.sh_domain.specs.Compacts.{stated_by}
use Rattle.sh_domain.specs.Facts.{Facts, Declared, facts}
use Rattle.sh_domain.specs.Filled.{IsFilled, FillsTo}
use Rattle.sh_domain.specs.Names.{IsNumbering, are_distinct}
use Rattle.sh_domain.specs.Order.{IsBelow}
use Rattle.sh_domain.specs.Reading.{AreLoops, fits}
use Rattle.sh_domain.specs.Sheets.{Sheet}
use Rattle.sh_domain.specs.Spelling.{IsSheet}
use Rattle.sh_domain.specs.Views.{Certificate}
use Rattle.sh_accept.specs.Accepted.{FitsGiven, Gives, Claims}
use Rattle.sh_accept.specs.Answers.{IsCertified}
use Rattle.sh_accept.specs.Computed.{IsRead, IsFilledBy, filled_to}
use Rattle.sh_accept.proofs.DistinctLemmas.{distinct_fold}
use Rattle.sh_accept.proofs.GreatestLemmas.{renamed}
use Rattle.sh_accept.proofs.LoopLemmas.{one_order}
use Rattle.sh_accept.proofs.NumberingLemmas.{same_names, same_fit, same_given_fit}
use Rattle.sh_accept.proofs.OneGreatestLemmas.{same_sheet}

-- what a text claims fits the script
pub claims_fit : (b : List ℕ) (t : Script) (names : List Text) (text : Text) (c : Sheet) → Claims b t names text c → Fits b t names c
unfolding Gives given_fits
claims_fit b t names text c h = go h.given h.fit h.gives
  where
    go : (g : GivenSheet) → FitsGiven b t names g → Gives b t names g c → Fits b t names c
    go (Full s) f e = subst (Fits b t names) e (record { loops = f.loops; are_loops = f.are_loops; fit = f.fit })
    go (Compact k) f is = is.fit

-- what is read is one thing
one_given : (r : Result GivenSheet ℕ) (g h : GivenSheet) → r ≡ Ok g → r ≡ Ok h → g ≡ h
one_given r g h p q = cc

functions_differ : (b : List ℕ) (t : Script) → are_distinct (functions_in b t) ≡ true
unfolding table_of functions_of names_of with_name are_distinct
functions_differ b t = distinct_fold [] (filter_map (λ s. defined s.form) (sites_of (script_of b t))) refl

module _ (b : List ℕ) (d : Declared) (t : Script) (names : List Text) (loops : List Bool) (read : IsRead b d t names loops) where
  -- what is read is the tree
  pub tree_is : (u : Script) → Parses b (Ok u) → u ≡ t
  tree_is u h = read.reading.2 u (MAX_NESTING, h.1.0, h.1.1)

  -- and its loops are known in one way
  pub loops_are : (others : List Bool) → AreLoops t others → others ≡ loops
  loops_are others are = one_order b t MAX_NESTING read.reading.1.0 read.reading.1.1 loops others read.are_loops are

  -- whatever the numbering, the same fits
  pub given_fit_is : (others : List Text) → IsNumbering b t d others → (ls : List Bool) → AreLoops t ls → (g : GivenSheet)
      → given_fits names loops (length (functions_in b t)) g ≡ given_fits others ls (length (functions_in b t)) g
  given_fit_is others n ls l g =
      same_given_fit names others (same_names b t d names others read.numbering n) loops (length (functions_in b t)) g
      ∙ ap (λ k. given_fits others k (length (functions_in b t)) g) (sym (loops_are ls l))

  fits_read : (others : List Text) → IsNumbering b t d others → (c : Sheet) → Fits b t others c → fits names loops (length (functions_in b t)) c ≡ true
  fits_read others n c f =
      same_fit names others (same_names b t d names others read.numbering n) loops (length (functions_in b t)) c
      ∙ ap (λ ls. fits others ls (length (functions_in b t)) c) (sym (loops_are f.loops f.are_loops))
      ∙ f.fit

  -- sheets that claim the same are one
  pub one_sheet : (ns ms : List Text) → IsNumbering b t d ns → IsNumbering b t d ms → (c e : Sheet) → Fits b t ns c → Fits b t ms e → IsSheet c → IsSheet e
      → IsBelow (claims_in b t c) (claims_in b t e) → IsBelow (claims_in b t e) (claims_in b t c) → c ≡ e
  one_sheet ns ms n m c e f g s z down up =
      same_sheet names (functions_in b t) loops c e down up (fits_read ns n c f) (fits_read ms m e g) s z (functions_differ b t)

  filled_one : (ns ms : List Text) → IsNumbering b t d ns → IsNumbering b t d ms → (start : Facts) (stated : Certificate) (c e : Sheet)
      → IsFilled b t ns start stated c → IsFilled b t ms start stated e → c ≡ e
  filled_one ns ms n m start stated c e h k =
      one_sheet ns ms n m c e h.fit k.fit h.spelled k.spelled
      (k.above c (renamed b d t ns ms c n m h.fit) h.keeps) (h.above e (renamed b d t ms ns e m n k.fit) k.keeps)

  -- by another numbering
  filled_renamed : (ns : List Text) → IsNumbering b t d ns → (start : Facts) (stated : Certificate) (c : Sheet) → IsFilled b t ns start stated c → IsFilled b t names start stated c
  filled_renamed ns n start stated c h = record {
    fit = renamed b d t ns names c n read.numbering h.fit;
    keeps = h.keeps;
    above = λ other fit keeps. h.above other (renamed b d t names ns other read.numbering n fit) keeps;
    spelled = h.spelled;
  }

  -- what is given is the certificate, or filled to it
  given_is : (text : Text) (filled : Sheet) → IsFilledBy b t names loops text filled → (ns : List Text) → IsNumbering b t d ns → (g : GivenSheet) (c : Sheet)
      → read_given text ≡ Ok g → given_fits names loops (length (functions_in b t)) g ≡ true → Gives b t ns g c → filled_to filled g ≡ c
  unfolding Gives given_fits filled_to
  given_is text filled by ns n (Full s) c r f e = e
  given_is text filled by ns n (Compact k) c r f is = filled_one names ns read.numbering n (facts k.start) (stated_by (functions_in b t) k) filled c (by k r f) is

  pub filled_by : (text : Text) (c : Sheet) → IsCertified b d text t c → IsFilledBy b t names loops text c
  unfolding Gives
  filled_by text c h k r f = go h.claims.given (one_given (read_given text) h.claims.given (Compact k) h.claims.reads r) h.claims.gives
    where
      go : (g : GivenSheet) → g ≡ Compact k → Gives b t h.names g c → FillsTo b t names k c
      go (Full s) e is = cc
      go (Compact m) e is =
          let same : m ≡ k = cc in
          subst (λ x. FillsTo b t names x c) same (filled_renamed h.names h.admitted.numbered.0 (facts m.start) (stated_by (functions_in b t) m) c is)

  -- what a certified text claims, filled
  pub filled_given : (text : Text) (filled c : Sheet) → IsFilledBy b t names loops text filled → (h : IsCertified b d text t c) → filled_to filled h.claims.given ≡ c
  filled_given text filled c by h =
      let x = h.claims in
      let n = h.admitted.numbered.0 in
      given_is text filled by h.names n x.given c x.reads (given_fit_is h.names n x.fit.loops x.fit.are_loops x.given ∙ x.fit.fit) x.gives

  -- a text claims one certificate
  pub one_certified : (text : Text) (c e : Sheet) → IsCertified b d text t c → IsCertified b d text t e → c ≡ e
  one_certified text c e h k =
      let by = filled_by text c h in
      let same : h.claims.given ≡ k.claims.given = one_given (read_given text) h.claims.given k.claims.given h.claims.reads k.claims.reads in
      sym (filled_given text c c by h) ∙ ap (filled_to c) same ∙ filled_given text c e by k
