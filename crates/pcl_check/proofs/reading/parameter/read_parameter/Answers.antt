use Rattle.std.proofs.Common.{take, drop, sym, ap, ◌∙◌, ℕ}
use Rattle.pcl_check.proofs.Names.{is_digit, front_split}
use Rattle.pcl_check.proofs.Decimals.{all_digits}
use Rattle.pcl_check.proofs.reading.parameter.read_parameter.Goals as goal

pub returns-in_err-letter : goal.returns-in_err-letter
returns-in_err-letter c =
    rw c.from_residual.ensures
    (all_digits c.args.text.now
    (c.split_at.ensures.back ∙ ap (λ (n : ℕ). drop n c.args.text.now) c.digit_count.ensures.count) c.in_err-letter.ensures.cases)

pub returns : goal.returns
returns c =
    let text = c.args.text.now in
    let split = front_split is_digit text in
    let front = c.split_at.ensures.front ∙ ap (λ (n : ℕ). take n text) c.digit_count.ensures.count in
    let after = c.split_at.ensures.back ∙ ap (λ (n : ℕ). drop n text) c.digit_count.ensures.count in
    record {
      are_digits = rw front split.pass;
      no_digit = rw (sym after ∙ c.in_ok-letter.ensures.cases.0) at split.stops;
      spelled = rw (front, sym c.in_ok-letter.ensures.cases.0, after) split.joined;
      number_is = c.number.ensures;
    }
