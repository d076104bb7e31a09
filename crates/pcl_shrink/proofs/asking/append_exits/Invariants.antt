use Rattle.std.proofs.Common.{◌≡◌, ◌++◌, take, map}
use Rattle.pcl_shrink.proofs.Names.{exit_of, exits_after, is_exit_after}
use Rattle.pcl_shrink.proofs.asking.append_exits.Given as goal

-- the exits so far are written, and it is known whether there is one
abbrev pub invariant-loop-exit : goal.invariant-loop-exit
invariant-loop-exit l =
    (l.out.items ≡ l.fn.out.items ++ exits_after l.pages (map exit_of (take l.exit-index l.asks.exits.items)))
    × (l.found ≡ is_exit_after l.pages (map exit_of (take l.exit-index l.asks.exits.items)))
