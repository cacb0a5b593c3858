use Rattle.trig_set.proofs.many_spots.places_moved.Goals as goal

pub returns : goal.returns
returns c n to none =
    let fifth = c.in_ok-put_timed.ensures.kept n none in
    let fourth = c.in_ok-put_shifted.ensures.kept n fifth in
    let third = c.in_ok-put_timers.ensures.kept n fourth in
    let second = c.in_ok-put_named.ensures.kept n third in
    record {
      within = c.requires;
      entries = c.in_ok-put_listed.ensures.aside n second;
      events = c.in_ok-put_named.ensures.aside n third;
      timed = c.in_ok-put_timers.ensures.aside n fourth;
      entities = c.in_ok-put_shifted.ensures.aside n fifth;
      times = c.in_ok-put_timed.ensures.aside n none;
      later = λ moment. tt;
    }
