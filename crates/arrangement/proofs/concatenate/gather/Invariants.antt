use Rattle.std.proofs.Common.{◌≡◌, ◌++◌, drop, take, map, length, flat_map, All, IfSome}
use Rattle.xr_types.specs.Kinds.{InRange}
use Rattle.xr_types.specs.declared.kind.DType.TheVariants.{Bool}
use Rattle.xr_types.specs.Points.{size}
use Rattle.xr_arrays.specs.Arrays.{hidden}
use Rattle.arrangement.proofs.concatenate.gather.Given as goal

abbrev pub invariant-loop-a : goal.invariant-loop-a
invariant-loop-a g l = record {
  cells : hidden (map g.T.Elem.number l.all.cells) l.all.mask ++ flat_map (λ a. a.now.cells) (drop l.a-index l.inputs) ≡ flat_map (λ a. a.now.cells) l.inputs;
  mask : IfSome l.all.mask (λ m. length m ≡ length l.all.cells);
  whole : All (λ a. length a.now.cells ≡ size a.now.shape) (take l.a-index l.inputs);
  truths : l.fn.kind ≡ Bool → All (λ x. InRange Bool (g.T.Elem.number x)) l.all.cells;
}
