-- More texts that nothing reads: forms that are refused by name, and what is required of bodies.
-- POSIX.1-2024, XCU 2.2 (quoting), 2.6 (word expansions), 2.7 (redirection), 2.7.4 (here-document).
use Rattle.std.specs.Prelude.{ℕ, List, codes}
use Rattle.sh_tree.specs.examples.Language.{IsUnread}

-- what begins no command
abbrev pub double_parenthesis_text : List ℕ
double_parenthesis_text = codes "((a))"

abbrev pub negated_parenthesis_text : List ℕ
negated_parenthesis_text = codes "!(a)"

abbrev pub double_bracket_text : List ℕ
double_bracket_text = codes "[[ a ]]"

-- an IO location
abbrev pub location_text : List ℕ
location_text = codes "{a}>f"

-- refused quotes and expansions
abbrev pub dollar_single_text : List ℕ
dollar_single_text = codes "$'\\x'"

-- commands between backquotes: a comment that runs over the closing one, and a backslash that goes
-- before they are read
abbrev pub backquoted_text : List ℕ
backquoted_text = codes "`# a`"

abbrev pub backslash_text : List ℕ
backslash_text = codes "`a \\$x`"

-- one that is before any other byte goes in double quotes
abbrev pub quoted_backslash_text : List ℕ
quoted_backslash_text = codes "\"`a \\b`\""

-- and backquotes in a default in double quotes
abbrev pub default_backquotes_text : List ℕ
default_backquotes_text = codes "\"${x-`a`}\""

abbrev pub other_braced_text : List ℕ
other_braced_text = codes "${x/y}"

-- all positional parameters if fields are not split
abbrev pub unsplit_text : List ℕ
unsplit_text = codes "\"${x-$@}\""

-- a delimiter with an expansion, one with a tilde-prefix, and one with `$'`
abbrev pub expanded_delimiter_text : List ℕ
expanded_delimiter_text = codes "<<$x\n$x\n"

abbrev pub tilde_delimiter_text : List ℕ
tilde_delimiter_text = codes "<<~x\n~x\n"

abbrev pub dollar_delimiter_text : List ℕ
dollar_delimiter_text = codes "<<$'a'\na\n"

-- a newline in a substitution, while a body is awaited outside
abbrev pub across_text : List ℕ
across_text = codes "<<E $(\n)\nE\n"

-- a tab after a line continuation in a body that is stripped of tabs
abbrev pub joined_tab_text : List ℕ
joined_tab_text = codes "<<-E\n\\\n\ta\nE\n"

-- an end line that begins with a line continuation
abbrev pub late_end_text : List ℕ
late_end_text = codes "<<E\n\\\nE\n"

-- and with a tab after that
abbrev pub tabbed_end_text : List ℕ
tabbed_end_text = codes "<<-E\nx\n\\\n\tE\n"

-- in a substitution in a body, whose lines are joined before it is read, or are not: a line
-- continuation in a comment
abbrev pub split_comment_text : List ℕ
split_comment_text = codes "<<E\n$(: # c\\\n)\nE\n"

-- in single quotes
abbrev pub split_quotes_text : List ℕ
split_quotes_text = codes "<<E\n$('a\\\nb')\nE\n"

-- and at the end of the line that ends a quoted body
abbrev pub split_end_text : List ℕ
split_end_text = codes "<<E\n$(<<'F\\'\nF\\\n)\nE\n"

-- no tree reads as the text
pub record OthersUnread : Type 0 where
  pub double_parenthesis : IsUnread double_parenthesis_text
  pub negated_parenthesis : IsUnread negated_parenthesis_text
  pub double_bracket : IsUnread double_bracket_text
  pub location : IsUnread location_text
  pub dollar_single : IsUnread dollar_single_text
  pub backquoted : IsUnread backquoted_text
  pub backslash : IsUnread backslash_text
  pub quoted_backslash : IsUnread quoted_backslash_text
  pub default_backquotes : IsUnread default_backquotes_text
  pub other_braced : IsUnread other_braced_text
  pub unsplit : IsUnread unsplit_text
  pub expanded_delimiter : IsUnread expanded_delimiter_text
  pub tilde_delimiter : IsUnread tilde_delimiter_text
  pub dollar_delimiter : IsUnread dollar_delimiter_text
  pub across : IsUnread across_text
  pub joined_tab : IsUnread joined_tab_text
  pub late_end : IsUnread late_end_text
  pub tabbed_end : IsUnread tabbed_end_text
  pub split_comment : IsUnread split_comment_text
  pub split_quotes : IsUnread split_quotes_text
  pub split_end : IsUnread split_end_text
