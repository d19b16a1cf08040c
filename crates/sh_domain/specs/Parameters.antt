-- Facts with the positional parameters of others.
-- POSIX.1-2024, XCU 2.5.1 (positional parameters), 2.15 (set).
use Rattle.sh_domain.specs.Facts.{Facts, NotReached, Known}

-- as many positional parameters as there, if both places are reached
unfoldable pub with_parameters_of : Facts → Facts → Facts
with_parameters_of NotReached g = NotReached
with_parameters_of (Known v f a) NotReached = Known v f a
with_parameters_of (Known v f a) (Known w g b) = Known v f b
