use Rattle.xr_building.proofs.Common.{Coord, List, Node, Ok, after, all_of, check_entry, check_numbers, check_put, drop, entries_in, map, names_of, over, with_key, ℕ, ◌>>=◌, ◌≡◌}
use Rattle.xr_building.proofs.put.put_entries.Given as goal

abbrev pub invariant-loop-entry : goal.invariant-loop-entry
invariant-loop-entry g l =
    let start = l.fn.cx in
    let left = drop l.entry-index l.entries in
    let put = entries_in (g.C.Compute.declines start.compute start.plan) start.plan (names_of l.variables) in
    record {
      plan : l.cx.plan ≡ start.plan;
      keeps : (nodes : List Node) (n : ℕ) → g.C.Compute.declines l.cx.compute nodes n ≡ g.C.Compute.declines start.compute nodes n;
      checked : all_of (check_entry l.axes) (map (with_key start.plan) left) ≡ Ok tt;
      so_far : (coords : List Coord) → put (after (over l.axes coords) l.puts) left ≡ put (over l.axes coords) l.entries;
      fits : all_of check_numbers (map (with_key start.plan) l.entries) ≡ (all_of check_put l.puts >>= λ u. all_of check_numbers (map (with_key start.plan) left));
    }
