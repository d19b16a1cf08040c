-- Known scripts with known texts, and what a check answers to each.
-- shset's own; the standard has none.
use Rattle.std.specs.Prelude.{◌≡◌, ℕ, Bool, true, false, List, [], ◌∷◌, codes, map, replicate}
use Rattle.sh_tree.specs.declared.known.KnownName.TheVariants as known_name
use Rattle.sh_tree.specs.declared.place.Code.{Code}
use Rattle.sh_tree.specs.declared.place.Code.TheVariants.{Q1, U1}
use Rattle.sh_tree.specs.declared.refusal.Refusal.TheVariants.{TooMany, Profile, CertSyntax, CertShape}
use Rattle.sh_tree.specs.declared.refusal.Rule.TheVariants as rule
use Rattle.sh_tree.specs.declared.tree.Link.TheVariants as link
use Rattle.sh_tree.specs.declared.tree.LoopKind.TheVariants as loop
use Rattle.sh_tree.specs.examples.Program.{only, simple, alone, lone}
use Rattle.sh_tree.specs.standard.program.Syntax.{Text, Items, Elements, Variable, Expansion, Value, no_items, more_items, and_or, no_links, more_links, pipeline, no_commands, more_commands, Group, Loop, Define, no_elements, operand}
use Rattle.sh_runs.specs.Calls.{names_of}
use Rattle.sh_runs.specs.Sites.{sites_of}
use Rattle.sh_domain.specs.examples.Programs.{quoted, text, compound, names_in, declared}
use Rattle.sh_domain.specs.Facts.{Declared}
use Rattle.sh_domain.specs.examples.Texts.{lines, header, with_line, function_text, loop_text, skipped_text}
use Rattle.sh_domain.specs.declared.rule.FlowRule.TheVariants.{F1, F4, F7, F13, F14}
use Rattle.sh_answers.specs.Verdicts.{Contents}
use Rattle.sh_accept.specs.Computed.{Answer, Passes, Finds, Breaks, Tells, computed}

-- a script with what is declared, its program, the names numbered, and of each of its commands
-- whether it is a loop
pub record Known : Type 0 where
  pub script : Text
  pub start : Declared
  pub program : Items
  pub names : List Text
  pub loops : List Bool

-- what a check reports of it and of a certificate's text
abbrev pub told : Known → Text → Answer
told x t = computed x.script x.start x.program (names_of (sites_of x.program)) x.names x.loops (record { commands = []; functions = [] }) t

abbrev pub finding : ℕ → Code → Text → Contents
finding column code subject = record { line = 1; column = column; code = code; subject = subject }

abbrev pub lone_loops : ℕ → List Bool
lone_loops n = replicate n false

-- One command

abbrev pub echo_of : Elements → Items
echo_of es = lone (simple 1 0 (text (codes "echo") es))

-- `echo "$x"`
abbrev pub echoes : Text → Known
echoes names = record {
  script = codes "echo \"$x\"\n";
  start = declared names 0;
  program = echo_of (operand (only (quoted 6 (codes "x"))) no_elements);
  names = names_in (codes "IFS OPTIND PPID OPTARG ! x");
  loops = lone_loops 1;
}

-- `echo $x`
abbrev pub echoes_bare : Text → Known
echoes_bare names = record {
  script = codes "echo $x\n";
  start = declared names 0;
  program = echo_of (operand (only (Expansion 5 (Variable (codes "x")) Value)) no_elements);
  names = names_in (codes "IFS OPTIND PPID OPTARG ! x");
  loops = lone_loops 1;
}

-- `eval "$x"`
abbrev pub evaluates : Known
evaluates = record {
  script = codes "eval \"$x\"\n";
  start = declared [] 0;
  program = lone (simple 1 0 (text (codes "eval") (operand (only (quoted 6 (codes "x"))) no_elements)));
  names = names_in (codes "IFS OPTIND PPID OPTARG ! x");
  loops = lone_loops 1;
}

-- the same names before and after the command, or no run comes there
abbrev pub start_line : Text
start_line = codes "c 1 0:IFS,OPTIND,PPID: 0:IFS,OPTIND,PPID: 0:IFS,OPTIND,PPID:"

abbrev pub sure_line : Text
sure_line = codes "c 1 0:IFS,OPTIND,PPID,x: 0:IFS,OPTIND,PPID,x: 0:IFS,OPTIND,PPID,x:"

-- Longer ones

-- `f() { :; }`, `f`
abbrev pub calls : Known
calls = record {
  script = codes "f() { :; }\nf\n";
  start = declared [] 0;
  program =
      alone (compound 1 0 (Define (codes "f") (compound 2 4 (Group (lone (simple 3 6 (text (codes ":") no_elements)))))))
      (lone (simple 4 11 (text (codes "f") no_elements)));
  names = names_in (codes "IFS OPTIND PPID OPTARG ! f");
  loops = lone_loops 4;
}

-- its certificate with another line for its last command, or for its function
abbrev pub call_lines : Text → Text → Text
call_lines last function =
    lines
    (header ∷ codes "commands 4 functions 1" ∷ codes "c 1 0:IFS,OPTIND,PPID: 0:IFS,OPTIND,PPID:f -" ∷ codes "c 2 0:IFS,OPTIND,PPID:f 0:IFS,OPTIND,PPID:f -"
    ∷ codes "c 3 0:IFS,OPTIND,PPID:f 0:IFS,OPTIND,PPID:f -" ∷ last ∷ function ∷ [])

-- `while read -r l; do echo "$l"; done`
abbrev pub reads : Known
reads = record {
  script = codes "while read -r l; do echo \"$l\"; done\n";
  start = declared [] 0;
  program =
      lone (compound 1 0 (Loop loop.While (lone (simple 2 6 (text (codes "read") (text (codes "-r") (text (codes "l") no_elements)))))
      (lone (simple 3 20 (text (codes "echo") (operand (only (quoted 26 (codes "l"))) no_elements))))));
  names = names_in (codes "IFS OPTIND PPID OPTARG ! l");
  loops = true ∷ false ∷ false ∷ [];
}

-- its certificate with another line for the loop
abbrev pub loop_lines : Text → Text
loop_lines first =
    lines
    (header ∷ codes "commands 3 functions 0" ∷ first ∷ codes "c 2 0:IFS,OPTIND,PPID: 0:IFS,OPTIND,PPID,l: 0:IFS,OPTIND,PPID:"
    ∷ codes "c 3 0:IFS,OPTIND,PPID,l: 0:IFS,OPTIND,PPID,l: 0:IFS,OPTIND,PPID,l:" ∷ [])

-- `false && echo "$x"`
abbrev pub skips : Known
skips = record {
  script = codes "false && echo \"$x\"\n";
  start = declared [] 0;
  program =
      more_items (and_or (pipeline false (more_commands (simple 1 0 (text (codes "false") no_elements)) no_commands))
      (more_links link.AndThen (pipeline false (more_commands (simple 2 9 (text (codes "echo") (operand (only (quoted 15 (codes "x"))) no_elements))) no_commands))
      no_links)) false no_items;
  names = names_in (codes "IFS OPTIND PPID OPTARG ! x");
  loops = lone_loops 2;
}

pub record AnswersAsExpected : Type 0 where
  pub passes :
      told (echoes (codes "x")) (with_line sure_line) ∷ told calls function_text ∷ told reads loop_text ∷ told skips skipped_text ∷ []
      ≡ replicate 4 Passes
  -- the parameter that may be unset, also if it is declared and not claimed; what is unquoted comes
  -- first at one place
  pub findings :
      told (echoes []) (with_line start_line) ∷ told (echoes (codes "x")) (with_line start_line) ∷ told (echoes_bare (codes "x")) (with_line sure_line)
      ∷ told (echoes_bare []) (with_line start_line) ∷ []
      ≡ Finds (finding 7 U1 (codes "x") ∷ []) ∷ Finds (finding 7 U1 (codes "x") ∷ []) ∷ Finds (finding 6 Q1 [] ∷ [])
      ∷ Finds (finding 6 Q1 [] ∷ finding 6 U1 (codes "x") ∷ []) ∷ []
  -- a name that is not set; no run at all; one more name after a call; a function that never comes
  -- back; a name at a loop's head; a command that no run comes to
  pub forged :
      told (echoes []) (with_line sure_line) ∷ told (echoes []) (with_line (codes "c 1 - - -"))
      ∷ told calls (call_lines (codes "c 4 0:IFS,OPTIND,PPID:f 0:IFS,OPTARG,OPTIND,PPID:f -") (codes "f 1 0:IFS,OPTIND,PPID:f : 0:IFS,OPTIND,PPID:f -"))
      ∷ told calls (call_lines (codes "c 4 0:IFS,OPTIND,PPID:f 0:IFS,OPTIND,PPID:f -") (codes "f 1 0:IFS,OPTIND,PPID:f : - -"))
      ∷ told reads (loop_lines (codes "c 1 0:IFS,OPTIND,PPID: 0:IFS,OPTIND,PPID: 0:IFS,OPTIND,PPID: 0:IFS,OPTIND,PPID,l:"))
      ∷ told skips (lines (header ∷ codes "commands 2 functions 0" ∷ codes "c 1 0:IFS,OPTIND,PPID: - 0:IFS,OPTIND,PPID:" ∷ codes "c 2 0:IFS,OPTIND,PPID: - -" ∷ [])) ∷ []
      ≡ Breaks 1 F1 ∷ Breaks 1 F1 ∷ Breaks 4 F14 ∷ Breaks 2 F13 ∷ Breaks 1 F7 ∷ Breaks 2 F4 ∷ []
  -- nothing, the first line alone, a leading zero
  pub malformed :
      map (told (echoes [])) ([] ∷ lines (header ∷ []) ∷ with_line (codes "c 1 00:IFS,OPTIND,PPID: - -") ∷ [])
      ≡ Tells (CertSyntax 1) ∷ Tells (CertSyntax 2) ∷ Tells (CertSyntax 3) ∷ []
  -- no commands, a head at no loop, a name that the script has not, no head at a loop
  pub misfits :
      told (echoes []) (lines (header ∷ codes "commands 0 functions 0" ∷ [])) ∷ told (echoes []) (with_line (codes "c 1 - - - -"))
      ∷ told (echoes []) (with_line (codes "c 1 0:IFS,y: - -")) ∷ told reads (loop_lines (codes "c 1 - - -")) ∷ []
      ≡ replicate 4 (Tells CertShape)
  -- the profile before the names and the certificate, the names before the certificate
  pub refused :
      told evaluates [] ∷ told (record evaluates { names = replicate 4097 [] }) [] ∷ told (record (echoes []) { names = replicate 4097 [] }) [] ∷ []
      ≡ Tells (Profile (rule.Refused known_name.Eval) 0) ∷ Tells (Profile (rule.Refused known_name.Eval) 0) ∷ Tells TooMany ∷ []
