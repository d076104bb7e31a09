use Rattle.pcl_library.proofs.showing.pcl_library_grey.Goals as goal

pub returns-in-Ok-clause-says : goal.returns-in-Ok-clause-says
returns-in-Ok-clause-says c =
    let says = c.image_answer.ensures.says in
    record {
      arguments = says.arguments;
      done = λ done.
          let seen = says.done done in
          (seen.0, seen.1, seen.2, (c.in-Ok.scale, c.in-Ok.ensures, seen.3));
      refused = says.refused;
      missing = says.missing;
    }
