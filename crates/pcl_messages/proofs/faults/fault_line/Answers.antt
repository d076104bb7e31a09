use Rattle.std.proofs.Common.{◌≡◌, ◌∙◌, ◌++◌, List, ℕ, ap, append_assoc}
use Rattle.pcl_messages.proofs.Names.{codes, decimal, Vec, refusal_text, Fault, text_of, line_of}
use Rattle.pcl_messages.proofs.faults.fault_line.Goals as goal
use Rattle.pcl_messages.proofs.faults.fault_line.Goals.{in-Refused+in_ok-extend_from_slice-in-Refused+in_ok-write_text-in-Refused, in-NoSuchPage+in_ok-extend_from_slice-in-NoSuchPage+in_ok-extend_from_slice-in-NoSuchPage-2, in-ReadFault+in_ok-extend_from_slice-in-ReadFault, in-TooLong+in_ok-extend_from_slice-in-TooLong, in-CertificateTooLong+in_ok-extend_from_slice-in-CertificateTooLong, in-WriteFault+in_ok-extend_from_slice-in-WriteFault, in-Memory+in_ok-extend_from_slice-in-Memory}

-- the text of a fault between the program's name and a line feed
said : {begun line : List ℕ} {vec told : Vec ℕ} {fault same : Fault} (page : ℕ) → begun ≡ codes "pclmin: " → same ≡ fault → vec ≡ told
    → told.items ≡ begun ++ text_of fault page → line ≡ vec.items ++ codes "\n" → line ≡ line_of same page
said {fault = fault} page b f is t l = rw (l, is, t, b, f) (append_assoc (codes "pclmin: ") (text_of fault page) (codes "\n"))

-- of a text in two parts
both : (begun : List ℕ) {middle told : List ℕ} (first second : List ℕ) → middle ≡ begun ++ first → told ≡ middle ++ second
    → told ≡ begun ++ (first ++ second)
both begun first second m t = cc (append_assoc begun first second)

pub returns : goal.returns
returns c =
    let page = c.args.page in
    let begun = c.in_ok-line.ensures.items in
    let ended = c.in_ok-extend_from_slice.ensures.items in
    elim c.match-fault.branch [
      | in-Refused+in_ok-extend_from_slice-in-Refused+in_ok-write_text-in-Refused w ↦
          said page begun w.in-Refused.is w.line-is
          (both _ (codes "refused: ") (refusal_text w.in-Refused.refusal) w.in_ok-extend_from_slice-in-Refused.ensures.items
          w.in_ok-write_text-in-Refused.ensures.ok) ended
      | in-NoSuchPage+in_ok-extend_from_slice-in-NoSuchPage+in_ok-extend_from_slice-in-NoSuchPage-2 w ↦
          said page begun w.in-NoSuchPage.is w.line-is
          (both _ (codes "no page ") (decimal page) w.in_ok-extend_from_slice-in-NoSuchPage.ensures.items
          (w.in_ok-extend_from_slice-in-NoSuchPage-2.ensures.items ∙ ap
          (λ (s : List ℕ). w.extend_from_slice-in-NoSuchPage.new.self.items ++ s) (w.as_bytes.ensures.value ∙ w.format.ensures.text))) ended
      | in-ReadFault+in_ok-extend_from_slice-in-ReadFault w ↦
          said page begun w.in-ReadFault.is w.line-is
          (w.in_ok-extend_from_slice-in-ReadFault.ensures.items ∙ ap
          (λ (s : List ℕ). c.in_ok-line.line.items ++ s) w.as_bytes-in-ReadFault.ensures.value) ended
      | in-TooLong+in_ok-extend_from_slice-in-TooLong w ↦
          said page begun w.in-TooLong.is w.line-is w.in_ok-extend_from_slice-in-TooLong.ensures.items ended
      | in-CertificateTooLong+in_ok-extend_from_slice-in-CertificateTooLong w ↦
          said page begun w.in-CertificateTooLong.is w.line-is w.in_ok-extend_from_slice-in-CertificateTooLong.ensures.items ended
      | in-WriteFault+in_ok-extend_from_slice-in-WriteFault w ↦
          said page begun w.in-WriteFault.is w.line-is
          (w.in_ok-extend_from_slice-in-WriteFault.ensures.items ∙ ap
          (λ (s : List ℕ). c.in_ok-line.line.items ++ s) w.as_bytes-in-WriteFault.ensures.value) ended
      | in-Memory+in_ok-extend_from_slice-in-Memory w ↦
          said page begun w.in-Memory.is w.line-is w.in_ok-extend_from_slice-in-Memory.ensures.items ended
    ]
