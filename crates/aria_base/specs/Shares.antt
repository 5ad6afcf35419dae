-- Seats of a shared table carry shares, so that who closes the table knows that no other seat is left.
use Rattle.std.specs.Prelude.{ℕ, ◌^◌}

-- the shares of all seats of a table together
abbrev pub all_shares : ℕ
all_shares = 2 ^ 40
