use Rattle.std.proofs.Common.{◌≡◌, ◌∙◌, sym, ap}
use Rattle.xr_arrays.specs.Arrays.{Array}
use Rattle.xr_defs.specs.Decoding.{var_shape}
use Rattle.xr_arrays.specs.Nodes.{values, value}
use Rattle.xr_values.proofs.Grown.{pushed_value, pushed_node}
use Rattle.xr_decode.proofs.Loaded.{cells_added, fits_plan, loaded, source_means, variable_same}
use Rattle.xr_decode.proofs.variable.variable_of.Goals as goal

pub decode_var-requires-clause-whole : goal.decode_var-requires-clause-whole
decode_var-requires-clause-whole c = (loaded c.args.source.now c.args.var.now c.requires.loaded).whole

pub push-requires : goal.push-requires
push-requires c = fits_plan (values c.args.plan.now) c.args.source.now c.args.mask c.args.var.now c.in_ok-parts.parts.array c.in_ok-parts.ensures.array c.requires.readable c.requires.loaded c.holds_bytes.ensures

pub returns-clause-variable : goal.returns-clause-variable
returns-clause-variable c =
    let a = c.in_ok-parts.parts.array in
    let old = c.args.plan.now in
    let is = c.in_ok-parts.ensures.array in
    let stands : value c.push.new.self c.in_ok-node.node ≡ a = pushed_value old c.push.new.self _ c.in_ok-node.node a (source_means (values old) a) c.in_ok-node.ensures.ok in
    variable_same c.args.source.now c.args.mask c.args.var.now c.in_ok-name.name c.in_ok-dims.dims c.kind-kind.result c.in_ok-parts.parts.masked c.in_ok-parts.parts.attrs (value c.push.new.self c.in_ok-node.node).cells
    (c.in_ok-name.ensures ∙ c.name.ensures) c.in_ok-dims.ensures (c.kind-kind.ensures ∙ ap (λ (x : Array). x.kind) is) c.in_ok-parts.ensures.masked c.in_ok-parts.ensures.attrs
    (ap (λ (x : Array). x.cells) stands ∙ ap (λ (x : Array). x.cells) is)

pub returns-clause-node : goal.returns-clause-node
returns-clause-node c =
    let a = c.in_ok-parts.parts.array in
    let old = c.args.plan.now in
    let node = pushed_node old c.push.new.self _ c.in_ok-node.node a (source_means (values old) a) c.in_ok-node.ensures.ok in
    record {
      placed = node.placed;
      has_shape = node.has_shape ∙ ap (λ (x : Array). x.shape) c.in_ok-parts.ensures.array;
      has_kind = node.has_kind ∙ sym c.kind-kind.ensures;
    }

pub returns-clause-cells : goal.returns-clause-cells
returns-clause-cells c = cells_added c.args.plan.now c.push.new.self _ c.in_ok-node.node (var_shape c.args.source.now c.args.var.now) c.in_ok-node.ensures.ok (returns-clause-node c).has_shape
