-- The bytes that mean more than themselves somewhere, by the standard's names.
-- POSIX.1-2024, XBD 6.1 (portable character set).
use Rattle.std.specs.Prelude.{ℕ}

abbrev pub alert : ℕ
alert = 7

abbrev pub backspace : ℕ
backspace = 8

abbrev pub tab : ℕ
tab = 9

abbrev pub newline : ℕ
newline = 10

abbrev pub vertical_tab : ℕ
vertical_tab = 11

abbrev pub form_feed : ℕ
form_feed = 12

abbrev pub carriage_return : ℕ
carriage_return = 13

abbrev pub escape : ℕ
escape = 27

abbrev pub space : ℕ
space = 32

abbrev pub exclamation_mark : ℕ
exclamation_mark = 33

abbrev pub quotation_mark : ℕ
quotation_mark = 34

abbrev pub number_sign : ℕ
number_sign = 35

abbrev pub dollar_sign : ℕ
dollar_sign = 36

abbrev pub percent_sign : ℕ
percent_sign = 37

abbrev pub apostrophe : ℕ
apostrophe = 39

abbrev pub left_parenthesis : ℕ
left_parenthesis = 40

abbrev pub right_parenthesis : ℕ
right_parenthesis = 41

abbrev pub asterisk : ℕ
asterisk = 42

abbrev pub plus_sign : ℕ
plus_sign = 43

abbrev pub hyphen_minus : ℕ
hyphen_minus = 45

abbrev pub slash : ℕ
slash = 47

abbrev pub digit_zero : ℕ
digit_zero = 48

abbrev pub digit_seven : ℕ
digit_seven = 55

abbrev pub digit_nine : ℕ
digit_nine = 57

abbrev pub colon : ℕ
colon = 58

abbrev pub less_than_sign : ℕ
less_than_sign = 60

abbrev pub equals_sign : ℕ
equals_sign = 61

abbrev pub greater_than_sign : ℕ
greater_than_sign = 62

abbrev pub question_mark : ℕ
question_mark = 63

abbrev pub commercial_at : ℕ
commercial_at = 64

abbrev pub capital_a : ℕ
capital_a = 65

abbrev pub capital_f : ℕ
capital_f = 70

abbrev pub capital_z : ℕ
capital_z = 90

abbrev pub left_bracket : ℕ
left_bracket = 91

abbrev pub backslash : ℕ
backslash = 92

abbrev pub underscore : ℕ
underscore = 95

abbrev pub backquote : ℕ
backquote = 96

abbrev pub small_a : ℕ
small_a = 97

abbrev pub small_b : ℕ
small_b = 98

abbrev pub small_e : ℕ
small_e = 101

abbrev pub small_f : ℕ
small_f = 102

abbrev pub small_n : ℕ
small_n = 110

abbrev pub small_r : ℕ
small_r = 114

abbrev pub small_t : ℕ
small_t = 116

abbrev pub small_v : ℕ
small_v = 118

abbrev pub small_z : ℕ
small_z = 122

abbrev pub left_brace : ℕ
left_brace = 123

abbrev pub right_brace : ℕ
right_brace = 125

abbrev pub tilde : ℕ
tilde = 126
