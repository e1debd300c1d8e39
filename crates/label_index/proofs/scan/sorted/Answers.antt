-- Each case is ranked by what the sort leaves.
use Rattle.std.proofs.Common.{◌≡◌, sym, ◌∙◌, ap, subst, length, get_or, pos, []}
use Rattle.std.specs.List.{range_with_len}
use Rattle.std.specs.List.Sorted.{IsPermutation, IsSortedBy}
use Rattle.std.specs.Ordering.{is_lt, int_cmp, nat_cmp}
use Rattle.std.specs.Cmp.Lexicographic.{slice_cmp}
use Rattle.xr_arrays.specs.Labels.{labels_of}
use Rattle.label_index.specs.declared.rank.Ranks.TheVariants.{Sorted}
use Rattle.label_index.specs.Ranks.{IsRanked}
use Rattle.label_index.proofs.Ranking.{sorted_ranked}
use Rattle.label_index.proofs.Rows.{numbers_by, times_by, texts_by}
use Rattle.label_index.proofs.scan.sorted.Goals as goal
use Rattle.label_index.proofs.scan.sorted.Goals.{in-Numbers, in-Times, in-Texts}

pub returns : goal.returns
returns c =
    let start : c.in_ok-order.order.items ≡ range_with_len 0 (length (labels_of c.args.list.now)) = c.in_ok-order.ensures ∙ ap (range_with_len 0) c.count.ensures in
    elim c.match-list.branch [
      | in-Numbers w ↦
          let sorted : IsSortedBy (λ p q. is_lt (int_cmp (get_or w.in-Numbers.numbers p (pos 0)) (get_or w.in-Numbers.numbers q (pos 0)))) w.sort_integers.new.order.items =
          w.sort_integers.ensures.sorted in
          let permuted : IsPermutation (range_with_len 0 (length (labels_of c.args.list.now))) w.sort_integers.new.order.items =
          subst (λ l. IsPermutation l w.sort_integers.new.order.items) start w.sort_integers.ensures.permutation in
          subst (λ v. IsRanked (labels_of c.args.list.now) (Sorted v)) (sym w.order-is)
          (sorted_ranked (labels_of c.args.list.now) w.sort_integers.new.order (λ p q. is_lt (int_cmp (get_or w.in-Numbers.numbers p (pos 0)) (get_or w.in-Numbers.numbers q (pos 0)))) c.requires.up c.requires.down permuted (numbers_by c.args.list.now _ w.in-Numbers.numbers w.in-Numbers.is) sorted)
      | in-Times w ↦
          let sorted : IsSortedBy (λ p q. is_lt (int_cmp (get_or w.in-Times.times p (pos 0)) (get_or w.in-Times.times q (pos 0)))) w.sort_numbers.new.order.items =
          subst (λ xs. IsSortedBy (λ p q. is_lt (int_cmp (get_or xs p (pos 0)) (get_or xs q (pos 0)))) w.sort_numbers.new.order.items) w.as_slice.ensures w.sort_numbers.ensures.sorted in
          let permuted : IsPermutation (range_with_len 0 (length (labels_of c.args.list.now))) w.sort_numbers.new.order.items =
          subst (λ l. IsPermutation l w.sort_numbers.new.order.items) start w.sort_numbers.ensures.permutation in
          subst (λ v. IsRanked (labels_of c.args.list.now) (Sorted v)) (sym w.order-is)
          (sorted_ranked (labels_of c.args.list.now) w.sort_numbers.new.order (λ p q. is_lt (int_cmp (get_or w.in-Times.times p (pos 0)) (get_or w.in-Times.times q (pos 0)))) c.requires.up c.requires.down permuted (times_by c.args.list.now _ w.in-Times.times w.in-Times.is) sorted)
      | in-Texts w ↦
          let sorted : IsSortedBy (λ p q. is_lt (slice_cmp nat_cmp (get_or w.in-Texts.texts p []) (get_or w.in-Texts.texts q []))) w.sort_texts.new.order.items =
          subst (λ xs. IsSortedBy (λ p q. is_lt (slice_cmp nat_cmp (get_or xs p []) (get_or xs q []))) w.sort_texts.new.order.items) w.as_slice-in-Texts.ensures w.sort_texts.ensures.sorted in
          let permuted : IsPermutation (range_with_len 0 (length (labels_of c.args.list.now))) w.sort_texts.new.order.items =
          subst (λ l. IsPermutation l w.sort_texts.new.order.items) start w.sort_texts.ensures.permutation in
          subst (λ v. IsRanked (labels_of c.args.list.now) (Sorted v)) (sym w.order-is)
          (sorted_ranked (labels_of c.args.list.now) w.sort_texts.new.order (λ p q. is_lt (slice_cmp nat_cmp (get_or w.in-Texts.texts p []) (get_or w.in-Texts.texts q []))) c.requires.up c.requires.down permuted (texts_by c.args.list.now w.in-Texts.texts w.in-Texts.is) sorted)
    ]
